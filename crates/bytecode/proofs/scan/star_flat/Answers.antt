-- `bytecode::scan::star_flat` meets its contract: no arity list, one that is ill-formed, or the flat list's refusal. Assumes nothing.
use Rattle.std.proofs.Common.{refl, sym, ◌∙◌, arith}
use Rattle.bytecode.proofs.Changing.{changed_none, changed_wider}
use Rattle.bytecode.proofs.Verdicts.{star_ungiven, star_refusal, star_bare, some_list, list_within, star_told, star_next, star_flat_at, star_changed, star_left}
use Rattle.bytecode.proofs.scan.star_flat.Goals as goal
use Rattle.bytecode.proofs.scan.star_flat.Goals.{then-form-list-via-then-form-list, then-form-list-via-else-form-list+then-not-name_list}

pub name_list-requires : goal.name_list-requires
name_list-requires c = some_list _ _ _ c.requires.0 c.requires.1 c.if-form-list.false

pub returns-then-form-list : goal.returns-then-form-list
returns-then-form-list c =
    elim c.then-form-list.branch [
      | then-form-list-via-then-form-list w ↦ rw w.table-is (changed_none _ _ _, λ es out h. star_bare _ _ _ es out h w.if-form-list.true)
      | then-form-list-via-else-form-list+then-not-name_list w ↦
          (let within = (list_within _ _ _ c.requires.0 c.requires.1 w.if-form-list.false).1 in
          rw w.table-is (
            changed_wider w.name_list.ensures.0 _ _ (omega arith) within,
            λ es out h. star_ungiven _ _ _ _ w.name_list.result w.name_list.ensures.1 es out h w.if-not-name_list.true,
          ))
    ]

pub next-requires : goal.next-requires
next-requires c =
    (star_told c.args.form c.name_list.ensures c.requires.0 c.requires.1 c.if-form-list.false c.if-not-name_list.false).1.lists.tree.inside

pub unflatten-requires : goal.unflatten-requires
unflatten-requires c =
    let x = star_told c.args.form c.name_list.ensures c.requires.0 c.requires.1 c.if-form-list.false c.if-not-name_list.false in
    rw (c.flat_from.ensures, c.next.ensures, star_next x.1) (refl, (x.0.given, x.0.rest, star_flat_at x.1))

pub returns : goal.returns
returns c =
    let x = star_told c.args.form c.name_list.ensures c.requires.0 c.requires.1 c.if-form-list.false c.if-not-name_list.false in
    let flat = rw (c.flat_from.ensures, c.next.ensures, star_next x.1) at c.unflatten.ensures in (
      star_changed x.1 flat.0,
      (λ es out h.
          let y = star_told c.args.form c.name_list.ensures es h c.if-form-list.false c.if-not-name_list.false in
          let all = flat.2 c.args.form.first y.0.given y.0.rest (star_flat_at y.1) in
          star_refusal y.0 out _ all.0 (λ z. star_left y.1 flat.0 out flat.1 (sym all.0 ∙ z) (all.1 z))),
    )
