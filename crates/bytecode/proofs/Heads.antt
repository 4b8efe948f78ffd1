-- The key of a form's head tells whether it is `prefix*` or `prefix`. Document 02, §1. Assumes nothing.
use Prim.Native.Nat.{ℕ}
use mathlib.Core.Path.{◌≡◌}
use mathlib.Core.List.{List}
use mathlib.Core.Bool.{false, ◌&&◌}
use lib.Dec.{eqb, ltb, lit<}
use lib.ListN.{length}
use Rattle.spec.specs.Nodes.{Nodes, empty, cons}
use Rattle.spec.specs.Bytecode.{prefix, prefix*, Around}
use Rattle.laws.specs.Demands.{Bytes}
use Rattle.rows.specs.Forms.{HeadAt, head_key, leads}
use Rattle.rows.specs.declared.forms.Form.{Form}
use Rattle.rows.proofs.Parts.{head_core}
use Rattle.bytecode.proofs.Flattening.{NoBytecode}

pub record HeadKey (key : ℕ) (es : Nodes) : Type 0 where
  pub star : eqb key 0x2031 ≡ leads prefix* es
  pub nested : eqb key 0x2030 ≡ leads prefix es

pub key_told : (s t : List ℕ) (f : Form) → Bytes s → (es : Nodes) → HeadAt s t f es → (k : ℕ) → k ≡ head_key es → HeadKey k es
key_told s t f b es h k e = rw e (record { star = head_core s t f b prefix* (lit< tt) es h; nested = head_core s t f b prefix (lit< tt) es h })

-- a form that neither heads, and one that `prefix` heads where nothing is around, is no bytecode
pub no_bytecode : (around : Around) (es : Nodes) → leads prefix* es ≡ false → leads prefix es && ltb 0 (length around) ≡ false → NoBytecode around es
no_bytecode around empty p q = tt
no_bytecode around (cons e es) p q = (p, q)
