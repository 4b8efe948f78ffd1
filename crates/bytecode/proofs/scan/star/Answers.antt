-- `bytecode::scan::star` meets its contract. Assumes nothing.
use Rattle.std.proofs.Common.{refl, sym, ◌∙◌, arith}
use borrow.Author.Tests.{ne_eqb}
use Rattle.spec.proofs.Flat.{arity_list}
use Rattle.rows.proofs.Nodes.{written_order}
use Rattle.bytecode.specs.Gathered.{refusal_of}
use Rattle.bytecode.specs.Named.{entering}
use Rattle.bytecode.proofs.Lists.{around_later}
use Rattle.bytecode.proofs.Verdicts.{verdict_refused, verdict_fine, star_refused, form_marked, around_small, nested_around, star_on, star_put, star_entering, star_changed_all, star_fine}
use Rattle.bytecode.proofs.scan.star.Goals as goal

pub returns-then-is_err : goal.returns-then-is_err
returns-then-is_err c =
    let flat = c.star_flat-verdict.ensures in
    let put = c.put_verdict.ensures in
    let r = refusal_of c.star_flat-verdict.result in
    let some = verdict_refused c.star_flat-verdict.result (sym c.if-is_err.ensures.value) in (
      form_marked c.requires.0.1 flat.0 put.0 put.2,
      λ es out h e.
          let order = written_order _ _ _ _ es h.fresh.written in
          star_refused _ _ c.args.form out es c.put_verdict.new.table _ (arity_list es) r (flat.1 es out h) some (put.1 ∙ rw (ne_eqb r 0 some))
          (around_later _ order (around_later _ (omega arith) (nested_around h e flat.0 put.0))),
    )

pub put_link-requires-2 : goal.put_link-requires-2
put_link-requires-2 c =
    let h = c.requires.0 in
    let out = c.requires.1 in
    let flat = c.star_flat-verdict.ensures in
    let none = verdict_fine c.star_flat-verdict.result (sym c.if-is_err.ensures.value) in
    let on = star_on _ _ _ out.0 h.0 (arity_list h.0) _ refl (flat.1 h.0 out.0 h.1) none in
    (omega (arith, on.left.lists.tree.inside, c.put_verdict.ensures.0.same_length, c.put_link.ensures.0.same_length), omega (arith, around_small h.1 out.1))

pub switch-requires : goal.switch-requires
switch-requires c =
    let h = c.requires.0 in
    let out = c.requires.1 in
    let flat = c.star_flat-verdict.ensures in
    let none = verdict_fine c.star_flat-verdict.result (sym c.if-is_err.ensures.value) in
    let on = star_on _ _ _ out.0 h.0 (arity_list h.0) _ refl (flat.1 h.0 out.0 h.1) none in
    let put = star_put c.args.form c.args.around none c.put_verdict.ensures c.put_link.ensures c.put_link-2.ensures in
    entering on.given out.0 (star_entering h.1 out.1 on.listed_as flat.0 on.left put)

pub next-requires : goal.next-requires
next-requires c =
    let h = c.requires.0 in
    let out = c.requires.1 in
    let flat = c.star_flat-verdict.ensures in
    let none = verdict_fine c.star_flat-verdict.result (sym c.if-is_err.ensures.value) in
    let on = star_on _ _ _ out.0 h.0 (arity_list h.0) _ refl (flat.1 h.0 out.0 h.1) none in
    let put = star_put c.args.form c.args.around none c.put_verdict.ensures c.put_link.ensures c.put_link-2.ensures in
    omega (arith, on.left.lists.tree.inside, put.changed.same_length, c.switch.ensures.0.same_length)

pub returns : goal.returns
returns c =
    let h = c.requires.0 in
    let out = c.requires.1 in
    let flat = c.star_flat-verdict.ensures in
    let switched = c.switch.ensures in
    let none = verdict_fine c.star_flat-verdict.result (sym c.if-is_err.ensures.value) in
    let on = star_on _ _ _ out.0 h.0 (arity_list h.0) _ refl (flat.1 h.0 out.0 h.1) none in
    let put = star_put c.args.form c.args.around none c.put_verdict.ensures c.put_link.ensures c.put_link-2.ensures in (
      star_changed_all h.1 out.1 on.listed_as flat.0 on.left put switched.0,
      λ es out h e.
          let on = star_on _ _ _ out es (arity_list es) _ refl (flat.1 es out h) none in
          rw on.listed_as (star_fine h e on.listed_as flat.0 on.left put switched.0 on.none
          (switched.1 on.given out (star_entering h e on.listed_as flat.0 on.left put)) c.next.ensures),
    )
