-- Laws of completing a value: its bytes written where all that stood there ends, or no room for them; of values that stand in the workspace
-- already; of a definition's values; of a form's value; of an atom of the stream, and of atoms one after the other.
-- Document 01: "when an expression's value is complete, its canonical length is charged". Assumes nothing.
use Prim.Native.Nat.{ℕ, ◌+◌, ◌-◌, ◌≤◌, ◌<◌}
use mathlib.Core.Path.{◌≡◌, refl, sym, ap, ◌∙◌}
use mathlib.Core.List.{List, [], ◌∷◌, ◌++◌, append_assoc, append-nil}
use mathlib.Core.Bool.{false}
use lib.ListN.{length, set, take, length-append}
use lib.Seq.{slice, length-slice}
use native.Mathlib.Omega.{arith}
use borrow.Author.Tests.{lt-ltb, le-ltb}
use mathlib.Core.Logic.{inl, inr}
use Rattle.std.specs.Prelude.{ltb, Result, Ok, Err, IfOk, IfErr, IsErrAnd}
use Rattle.std.proofs.lemmas.Bool.{cases_lt}
use Rattle.std.proofs.lemmas.Result.{err_from_is_err_and}
use Rattle.spec.specs.Expr.{when◌then◌else◌, Atom, nil, array, int, ref, atom, form, Exprs, only, depth, deepest, atom_bytes, bytes, canonical}
use Rattle.spec.specs.Nodes.{leaf, branch, bytecode, Nodes, empty, cons, unnumbered, unnumbered_all}
use Rattle.laws.specs.Demands.{Bytes}
use Rattle.laws.proofs.Basics.{impossible}
use Rattle.laws.proofs.Fits.{bytes_drop, bytes_take}
use Rattle.laws.proofs.Shortest.{spelled_fits}
use Rattle.atoms.specs.Refusals.{number, refused}
use Rattle.atoms.specs.declared.refusal.Refusal.{Refusal}
use Rattle.atoms.specs.declared.refusal.Reason.TheVariants.{FullWorkspace}
use Rattle.atoms.specs.Tokens.{kind_of}
use Rattle.atoms.specs.declared.Kind.TheVariants.{Array}
use Rattle.writer.specs.Bytes.{put_at, Put, with_head}
use Rattle.writer.proofs.Puts.{length_put_at, put_at_more, stored, written_on}
use Rattle.rows.specs.Rows.{cell, start, LeafAt, NodeAt, NodesAt}
use Rattle.workspace.specs.Completed.{Fitting, Stand, with_top, Complete, Completed, Incomplete, too_deep, too_long, BodyOf, Atoms, Stored}
use Rattle.workspace.specs.declared.values.State.{State}
use Rattle.workspace.specs.declared.values.Body.{Body}
use Rattle.rows.proofs.Nodes.{leaf_array, leaf_nil, leaf_int, leaf_ref, nodes_done, nodes_first, leaf_at, leaf_skipped}
use Rattle.rows.proofs.Slices.{slice_take}
use Rattle.workspace.proofs.Areas.{stand_size, put_untouched, slice_put, put_none, put_before, moved}

-- Any values

-- values that are not too deep and have n bytes
pub record Sized (vs : Exprs) (n : ℕ) : Type 0 where
  pub shallow : deepest vs ≤ 64
  pub size : length (canonical vs) ≡ n

-- what `State::charged` answers
abbrev pub charge : State → ℕ → ℕ → ℕ → Result State Refusal
charge st n top row = when ltb st.room n then Err (refused FullWorkspace row) else Ok (with_top st (st.room - n) top)

-- what is charged was there
pub paid : (st : State) (n top row : ℕ) (r : Result State Refusal) → r ≡ charge st n top row → IfOk r (λ st'. n ≤ st.room)
paid st n top row r is = elim (cases_lt st.room n) [ inl l ↦ rw (is, lt-ltb st.room n l) tt | inr l ↦ rw (is, le-ltb st.room n l) l ]

-- of values with n bytes that are written where those before them end, if they are charged
module _ {vs : Exprs} {n : ℕ} (v : Sized vs n) {st : State} where
  -- they are not
  pub unpaid : {row : ℕ} → st.room < n → (row ≡ row) × Incomplete st vs 17
  unpaid h = (refl, too_long v.shallow (omega (arith, v.size)))

  -- they are
  written : {w w' : List ℕ} {start : ℕ} → Fitting w st → start ≤ st.top → n ≤ st.room → w' ≡ put_at w start (canonical vs)
      → Complete w w' st start vs (with_top st (st.room - n) (start + n))
  written {w} {w'} {start} fits h paid put =
      let size = v.size in
      let room : start + length (canonical vs) ≤ length w = omega (arith, fits.paid, fits.below) in
      let others = put_untouched w start (canonical vs) room start st.floor (omega arith) (omega (arith, fits.paid)) in
      rw (put, ← size) (record {
        shallow = v.shallow;
        charged = omega arith;
        state = refl;
        stand = record { order = omega arith; inside = omega (arith, others.size); bytes = slice_put w start (canonical vs) room };
        others = others;
      })

module _ {vs : Exprs} {n : ℕ} (v : Sized vs n) (st : State) (start row : ℕ) where
  pub completed : {w w' : List ℕ} (r : Result State Refusal) → Fitting w st → start ≤ st.top → r ≡ charge st n (start + n) row
      → (n ≤ st.room → w' ≡ put_at w start (canonical vs)) → Completed w w' st start row vs r
  completed r fits h is put = elim (cases_lt st.room n) [
    | inl l ↦ rw (is, lt-ltb st.room n l) (unpaid v l)
    | inr l ↦ rw (is, le-ltb st.room n l) (written v fits h l (put l))
  ]

  uncharged : (r : Result State Refusal) → r ≡ charge st n (start + n) row → IfErr r (λ e. (e.place ≡ row) × Incomplete st vs (number e.reason))
  uncharged r is = elim (cases_lt st.room n) [
    | inl l ↦ rw (is, lt-ltb st.room n l) (unpaid v l)
    | inr l ↦ rw (is, le-ltb st.room n l) tt
  ]

  -- a refusal that is passed on by `?`
  pub refused_on : (w : List ℕ) {e : Refusal} (r : Result State Refusal) → IsErrAnd r (λ x. x ≡ e) → Err e ≡ charge st n (start + n) row
      → Completed w w st start row vs r
  refused_on w {e} r on is = let p = err_from_is_err_and r on in rw (p.1, p.2) (uncharged (Err e) is)

-- values that stand in the workspace
pub part_sized : {w : List ℕ} {vs : Exprs} {from to : ℕ} → deepest vs ≤ 64 → Stand w from to vs → Sized vs (to - from)
part_sized shallow there = record { shallow = shallow; size = stand_size there }

-- A definition's values

pub moved_below : {w w' : List ℕ} {st : State} (start : ℕ) → Fitting w st → start ≤ st.top → let floor : ℕ = st.floor - (st.top - start) in
    w' ≡ moved w start st.top floor
    → Stored w w' st start (record { steps = st.steps; room = st.room; top = start; floor = floor })
moved_below {w} {w'} {st} start fits h put =
    let floor : ℕ = st.floor - (st.top - start) in
    let bs = slice start st.top w in
    let size = length-slice start st.top w (omega (arith, fits.paid, fits.below)) in
    let past : floor + length bs ≡ st.floor = omega (arith, size, fits.paid) in
    let room : floor + length bs ≤ length w = omega (arith, past, fits.below) in
    record {
      steps = refl;
      room = refl;
      top = refl;
      floor = omega (arith, fits.paid);
      bytes = ap (λ (k : ℕ). slice floor k w') (sym past) ∙ rw put (slice_put w floor bs room);
      others = rw put (put_untouched w floor bs room start st.floor (omega (arith, fits.paid)) (omega (arith, past)));
    }

-- A form's value

form_bytes : (vs : Exprs) → canonical (only (form vs)) ≡ 0x01 ∷ (canonical vs ++ (0x02 ∷ []))
unfolding bytes
form_bytes vs = append-nil (0x01 ∷ (canonical vs ++ (0x02 ∷ [])))

form_depth : (vs : Exprs) → deepest (only (form vs)) ≡ 1 + deepest vs
unfolding depth
form_depth vs = omega arith

pub form_deep : (vs : Exprs) {st : State} {row : ℕ} → 63 < deepest vs → (row ≡ row) × Incomplete st (only (form vs)) 6
form_deep vs h = (refl, too_deep (omega (arith, form_depth vs)))

module _ (vs : Exprs) (n : ℕ) (size : length (canonical vs) + 2 ≡ n) where
  pub form_sized : deepest vs ≤ 63 → Sized (only (form vs)) n
  form_sized h = record {
    shallow = omega (arith, form_depth vs);
    size = ap length (form_bytes vs) ∙ simp length-append (omega arith);
  }

  -- the values written, then 01 before and 02 behind them
  pub form_written : (w : List ℕ) {w₁ : List ℕ} (start : ℕ) → start + n ≤ length w → w₁ ≡ put_at w (start + 1) (canonical vs)
      → set (set w₁ start 0x01) (start + n - 1) 0x02 ≡ put_at w start (canonical (only (form vs)))
  form_written w {w₁} start room is =
      let bs = canonical vs in
      let opened : List ℕ = 0x01 ∷ bs in
      let upper : start + 1 + length bs ≤ length w = omega arith in
      let front : set w₁ start 0x01 ≡ put_at w start opened =
      rw is ((stored (put_at w (start + 1) bs) start (0x01 ∷ []) (omega (arith, length_put_at w (start + 1) bs upper))).is
      ∙ put_before w start (0x01 ∷ []) bs upper) in
      let past : start + n - 1 ≡ start + length opened = omega arith in
      let lower : start + length opened ≤ length w = omega arith in
      rw (front, past, form_bytes vs)
      ((stored (put_at w start opened) (start + length opened) (0x02 ∷ []) (omega (arith, length_put_at w start opened lower))).is
      ∙ put_at_more w start opened lower (0x02 ∷ []))

-- An atom of the stream

-- that is an array
pub array_leaf : {s t : List ℕ} {r : ℕ} {a : Atom} → LeafAt s t r a → kind_of a ≡ Array → (bs : List ℕ) × (a ≡ array bs) × LeafAt s t r (array bs)
array_leaf {a = nil} l is = impossible (cc)
array_leaf {a = array bs} l is = (bs, refl, l)
array_leaf {a = int v} l is = impossible (cc)
array_leaf {a = ref m n} l is = impossible (cc)

module _ {s t : List ℕ} {r : ℕ} {b : Body} (to : b.to ≡ cell t r 2) where
  body_of : (a : Atom) → LeafAt s t r a → b.from ≤ b.to → with_head b.kind (slice b.from b.to s) ≡ atom_bytes a → BodyOf s a b
  body_of a l order is =
      record { order = order; inside = omega (arith, l.row.ends); short = l.row.short; is = rw (← slice_take b.from b.to s) is }

  pub body_array : {bs : List ℕ} → b.kind ≡ Array → LeafAt s t r (array bs) → b.from ≡ cell t r 2 - length bs → BodyOf s (array bs) b
  unfolding atom_bytes
  body_array {bs} kinded l from = body_of (array bs) l (omega arith) (rw (kinded, from, to) (ap (with_head Array) (leaf_array l).0))

  pub body_other : (a : Atom) → LeafAt s t r a → b.kind ≡ kind_of a → (b.kind ≡ Array → ⊥) → b.from ≡ start t r → BodyOf s a b
  body_other a l kinded h from = body_of a l (omega (arith, l.row.starts)) (rw (kinded, from, to) (go a l kinded))
    where
      go : (a : Atom) → LeafAt s t r a → b.kind ≡ kind_of a → with_head (kind_of a) (slice (start t r) (cell t r 2) s) ≡ atom_bytes a
      go nil l kinded = leaf_nil l
      go (array bs) l kinded = absurd (h kinded)
      go (int v) l kinded = leaf_int l
      go (ref m n) l kinded = leaf_ref l

-- its canonical bytes are no more than a stream's
pub leaf_short : {s t : List ℕ} {r : ℕ} {a : Atom} → Bytes s → LeafAt s t r a → length (atom_bytes a) ≤ 65536
leaf_short {s} {t} {r} {a} stream l =
    let x = slice (start t r) (cell t r 2) s in
    let own = bytes_drop (start t r) (take (cell t r 2) s) (bytes_take (cell t r 2) s stream) in
    omega (arith, (spelled_fits a x own l.spells).1, length-slice (start t r) (cell t r 2) s l.row.ends, l.row.ends, l.row.short)

-- an atom alone
pub only_atom : (a : Atom) → (canonical (only (atom a)) ≡ atom_bytes a) × (deepest (only (atom a)) ≤ 64)
unfolding bytes depth
only_atom a = (append-nil (atom_bytes a), omega arith)

pub atom_sized : {a : Atom} {n : ℕ} → n ≡ length (atom_bytes a) → Sized (only (atom a)) n
atom_sized {a} size = record { shallow = (only_atom a).1; size = ap length (only_atom a).0 ∙ sym size }

-- Atoms of the stream, one after the other

pub atoms_flat : (es : Nodes) → Atoms es → deepest (unnumbered_all es) ≡ 0
unfolding unnumbered depth
atoms_flat empty atoms = refl
atoms_flat (cons (leaf q a) es) atoms = omega (arith, atoms_flat es atoms)
atoms_flat (cons (branch q fs) es) atoms = absurd atoms
atoms_flat (cons (bytecode q fs o) es) atoms = absurd atoms

-- the value of a form of atoms
pub flat_sized : (es : Nodes) → Atoms es → {n : ℕ} → length (canonical (unnumbered_all es)) + 2 ≡ n → Sized (only (form (unnumbered_all es))) n
flat_sized es atoms {n} size = form_sized (unnumbered_all es) n size (omega (arith, atoms_flat es atoms))

-- of the bytes of the atoms es the first n - 2 are written behind `top`; those of the atoms from a row on are left
pub record Upto (s t w₀ w : List ℕ) (top n row end : ℕ) (es : Nodes) : Type 0 where
  pub done : List ℕ
  pub put : Put w₀ (top + 1) done w (top + n - 1)
  pub left : Nodes
  pub at : NodesAt s t false row end left
  pub atoms : Atoms left
  pub is : canonical (unnumbered_all es) ≡ done ++ canonical (unnumbered_all left)

pub atoms_start : {s t : List ℕ} {first end : ℕ} (w : List ℕ) (top : ℕ) (es : Nodes) → NodesAt s t false first end es → Atoms es → Upto s t w w top 2 first end es
atoms_start w top es at atoms =
    record { done = []; put = record { place = omega arith; is = put_none w (top + 1) }; left = es; at = at; atoms = atoms; is = refl }

-- an atom stands at the row
pub record AtomNext (s t w₀ w : List ℕ) (top n row end : ℕ) (es : Nodes) : Type 0 where
  pub own : Atom
  pub leaf : LeafAt s t row own
  pub fits : n + length (atom_bytes own) ≤ length (canonical (unnumbered_all es)) + 2
  pub next : {w' : List ℕ} {size : ℕ} → size ≡ length (atom_bytes own) → w' ≡ put_at w (top + n - 1) (atom_bytes own) → Upto s t w₀ w' top (n + size) (row + 1) end es

module _ {s t w₀ w : List ℕ} {top n row end : ℕ} {es : Nodes} (u : Upto s t w₀ w top n row end es) where
  pub atoms_end : end ≤ row → Put w₀ (top + 1) (canonical (unnumbered_all es)) w (top + n - 1)
  unfolding unnumbered bytes
  atoms_end h = rw (rw (nodes_done s t false row end u.left u.at h, append-nil u.done) at u.is) u.put

  pub atoms_next : top + n ≤ length w₀ → row < end → AtomNext s t w₀ w top n row end es
  unfolding NodeAt unnumbered bytes
  atoms_next room h = go u.left u.at u.atoms u.is
    where
      go : (left : Nodes) → NodesAt s t false row end left → Atoms left → canonical (unnumbered_all es) ≡ u.done ++ canonical (unnumbered_all left)
          → AtomNext s t w₀ w top n row end es
      go empty at atoms is = absurd (omega (arith, at))
      go (cons (leaf q a) left) at atoms is = record {
        own = a;
        leaf = leaf_at s t false row q a (nodes_first s t false row end (leaf q a) left at).1;
        fits = rw is (simp length-append (omega (arith, u.put.place)));
        next = λ {w'} {size} sized put. record {
          done = u.done ++ atom_bytes a;
          put = written_on {bs = u.done} (omega (arith, u.put.place)) u.put (record { place = omega (arith, u.put.place); is = put });
          left = left;
          at = leaf_skipped s t false row end q a left at;
          atoms = atoms;
          is = is ∙ sym (append_assoc u.done (atom_bytes a) (canonical (unnumbered_all left)));
        };
      }
      go (cons (branch q fs) left) at atoms is = absurd atoms
      go (cons (bytecode q fs o) left) at atoms is = absurd atoms
