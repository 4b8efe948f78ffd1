-- What a scope shows of the lent arrays: the entries of the visible definitions and of the associations; and what a key finds.
-- Document 01: "a list of definitions that are visible at each place". Assumes nothing.
use Rattle.std.specs.Prelude.{ℕ, zero, suc, ◌+◌, List, [], ◌∷◌, length, get_or, eqb, Option, Some, None}
use Rattle.spec.specs.Expr.{when◌then◌else◌}
use Rattle.workspace.specs.Packed.{packed_from, packed_to}
use Rattle.rules.specs.Entries.{function_bit, key_in, content_in}
use Rattle.rules.specs.declared.scope.Scope.{Scope}
use Rattle.rules.specs.declared.scope.Content.{Content}
use Rattle.rules.specs.declared.scope.Content.TheVariants.{Value, Function}

-- the first n numbers of an array, the last one first
unfoldable pub latest : List ℕ → ℕ → List ℕ
latest numbers zero = []
latest numbers (suc n) = get_or numbers n 0 ∷ latest numbers n

-- the visible entries, the latest first
pub record View : Type 0 where
  pub definitions : List ℕ
  pub associations : List ℕ

abbrev pub view : List ℕ → List ℕ → Scope → View
view associations definitions sc = record { definitions = latest definitions sc.defined; associations = latest associations sc.associated }

-- the latest definition of a key; of a function also how many are behind it
unfoldable pub find : ℕ → List ℕ → Option Content
find key [] = None
find key (e ∷ es) =
    when eqb (key_in e) key then Some (Value (packed_from (content_in e)) (packed_to (content_in e))) else
    when eqb (key_in e) (key + function_bit) then Some (Function (content_in e) (length es)) else find key es
