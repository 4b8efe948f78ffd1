-- `bytecode::scan::nested` meets its contract. Assumes nothing.
use Rattle.std.proofs.Common.{refl, sym, ◌∙◌, arith}
use borrow.Author.Tests.{eq-eqb, ne_eqb}
use Rattle.spec.specs.Bytecode.{all}
use Rattle.rows.proofs.Nodes.{written_order}
use Rattle.bytecode.specs.Gathered.{refusal_of}
use Rattle.bytecode.specs.Scanned.{here, fine}
use Rattle.bytecode.proofs.Lists.{around_later}
use Rattle.bytecode.proofs.Verdicts.{verdict_refused, verdict_fine, nested_flat_at, nested_around, nested_framed, form_marked, judged_refused}
use Rattle.bytecode.proofs.scan.nested.Goals as goal

pub unflatten-verdict-requires : goal.unflatten-verdict-requires
unflatten-verdict-requires c =
    let es = c.requires.0 in
    let out = c.requires.1 in
    rw c.flat_from.ensures (refl, (all out.0, es.0, nested_flat_at es.1 out.1))

pub returns-then-is_err : goal.returns-then-is_err
returns-then-is_err c =
    let un = rw c.flat_from.ensures at c.unflatten-verdict.ensures in
    let put = c.put_verdict.ensures in
    let r = refusal_of c.unflatten-verdict.result in
    let some = verdict_refused c.unflatten-verdict.result (sym c.if-is_err.ensures.value) in (
      form_marked c.requires.0.1 un.0 put.0 put.2,
      λ es out h e.
          let is = (un.2 c.args.form.first (all out) es (nested_flat_at h e)).0 in
          let order = written_order _ _ _ _ es h.fresh.written in
          judged_refused _ _ c.args.form _ 1 (all out) out out es r is some (put.1 ∙ rw (ne_eqb r 0 some))
          (around_later _ order (around_later _ (omega arith) (nested_around h e un.0 put.0))),
    )

pub returns : goal.returns
returns c =
    let un = rw c.flat_from.ensures at c.unflatten-verdict.ensures in
    let put = c.put_verdict.ensures in
    let r = refusal_of c.unflatten-verdict.result in
    let none = verdict_fine c.unflatten-verdict.result (sym c.if-is_err.ensures.value) in (
      form_marked c.requires.0.1 un.0 put.0 put.2,
      λ es out h e.
          let all_of = un.2 c.args.form.first (all out) es (nested_flat_at h e) in
          let z = sym all_of.0 ∙ none in
          fine _ _ z (put.1 ∙ rw (eq-eqb r 0 none)) refl (omega arith) (nested_framed h e un.0 put.0 un.1 z (all_of.1 none))
          (around_later _ (omega arith) (nested_around h e un.0 put.0)) here,
    )
