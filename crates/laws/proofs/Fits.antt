-- Laws of `Bytes`. And which expressions have canonical bytes that can be read back, depth and length apart: those in which the numbers
-- are small enough; and the same of nodes. Document 01: "Canonical". Assumes nothing.
use Prim.Native.Nat.{ℕ, zero, suc, ◌≤◌, ◌<◌}
use mathlib.Core.Path.{◌≡◌}
use mathlib.Core.List.{List, [], ◌∷◌, ◌++◌, map}
use mathlib.Core.Bool.{true, false}
use lib.ListN.{take, drop}
use Rattle.spec.specs.Expr.{Atom, nil, array, int, ref, Expr, atom, form, Exprs, none, more}
use Rattle.spec.specs.Nodes.{Node, leaf, branch, bytecode, Nodes, empty, cons, Outcome, fails, becomes, row, elements, tail}
use Rattle.spec.specs.Bytecode.{led_by_name}
use Rattle.spec.specs.Runs.{step}
use Rattle.laws.specs.Demands.{Bytes}
use Rattle.laws.specs.Holding.{NoBytecode}
use Rattle.laws.specs.Sanity.{RowsBelow, RuleNumber}
use Rattle.laws.proofs.Basics.{impossible}

pub bytes_take : (n : ℕ) (s : List ℕ) → Bytes s → Bytes (take n s)
bytes_take zero s b = tt
bytes_take (suc n) [] b = tt
bytes_take (suc n) (x ∷ s) b = (b.0, bytes_take n s b.1)

pub bytes_drop : (n : ℕ) (s : List ℕ) → Bytes s → Bytes (drop n s)
bytes_drop zero s b = b
bytes_drop (suc n) [] b = tt
bytes_drop (suc n) (x ∷ s) b = bytes_drop n s b.1

pub bytes_append : (s t : List ℕ) → Bytes s → Bytes t → Bytes (s ++ t)
bytes_append [] t b c = c
bytes_append (x ∷ s) t b c = (b.0, bytes_append s t b.1 c)

-- bytes in two parts
pub bytes_front : (s t : List ℕ) → Bytes (s ++ t) → Bytes s
bytes_front [] t b = tt
bytes_front (x ∷ s) t b = (b.0, bytes_front s t b.1)

pub bytes_back : (s t : List ℕ) → Bytes (s ++ t) → Bytes t
bytes_back [] t b = b
bytes_back (x ∷ s) t b = bytes_back s t b.1

abbrev pub Fits : Atom → Type 0
Fits nil = Unit {0}
Fits (array bs) = Bytes bs
Fits (int v) = v < 64
Fits (ref m n) = (16 ≤ m) × (m ≤ 65535) × (n < 256)

abbrev mutual
  pub FitsExpr : Expr → Type 0
  FitsExpr (atom a) = Fits a
  FitsExpr (form es) = FitsAll es

  pub FitsAll : Exprs → Type 0
  FitsAll none = Unit {0}
  FitsAll (more e es) = FitsExpr e × FitsAll es

-- nodes that fit, at rows of a stream that has so many. A bytecode form is headed by a name, and what it becomes is not.
module _ (bound : ℕ) where
  abbrev mutual
    pub FitsNode : Node → Type 0
    FitsNode (leaf r a) = (r < bound) × Fits a
    FitsNode (branch r es) = (r < bound) × FitsNodes es
    FitsNode (bytecode r es o) = (r < bound) × FitsNodes es × (led_by_name es ≡ true) × FitsOutcome o

    pub FitsNodes : Nodes → Type 0
    FitsNodes empty = Unit {0}
    FitsNodes (cons e es) = FitsNode e × FitsNodes es

    pub FitsOutcome : Outcome → Type 0
    FitsOutcome (fails w) = RuleNumber w
    FitsOutcome (becomes rows e) = RowsBelow bound (map step rows) × FitsNode e × (led_by_name (elements e) ≡ false)

  pub becomes_other : (rows : List ℕ) (e : Node) → FitsOutcome (becomes rows e) → NoBytecode e
  becomes_other rows (leaf r a) f = tt
  becomes_other rows (branch r es) f = tt
  becomes_other rows (bytecode r es o) f = impossible (cc (f.1.2, f.2))

  pub row_below : (e : Node) → FitsNode e → row e < bound
  row_below (leaf r a) f = f.0
  row_below (branch r es) f = f.0
  row_below (bytecode r es o) f = f.0

  pub tail_fits : (es : Nodes) → FitsNodes es → FitsNodes (tail es)
  tail_fits empty f = tt
  tail_fits (cons e es) f = f.1

  pub elements_fit : (e : Node) → FitsNode e → FitsNodes (elements e)
  elements_fit (leaf r a) f = tt
  elements_fit (branch r es) f = f.1
  elements_fit (bytecode r es o) f = f.1
