-- What follows from a run that is held to its bounds; and the evaluation of a list of nodes, the top level's and any other's alike.
-- Document 01: "Steps", "Workspace". Assumes nothing.
use Rattle.std.specs.Prelude.{ℕ, zero, suc, ◌++◌}
use Rattle.spec.specs.Expr.{none, append}
use Rattle.spec.specs.Nodes.{Node, leaf, branch, bytecode, Nodes, empty, cons, markers}
use Rattle.spec.specs.Runs.{Run, give, bind, Held, reached, ceased}
use Rattle.spec.specs.Plan.{Within, top, element, inner, Here}
use Rattle.spec.specs.Evaluation.{Left, entering, Call, eval}

-- a held run, then what follows from its result within what is left
abbrev pub and_hold : {A B : Type 0} → Held A → (A → ℕ → ℕ → Held B) → Held B
and_hold (reached a s w) f = f a s w
and_hold (ceased v r) f = ceased v r

-- the list that the element behind this one is an element of
abbrev pub beyond : Node → Within → Within
beyond e (top earlier) = top (markers e ++ earlier)
beyond e element = element
beyond e inner = inner

-- where the element behind e is evaluated
abbrev pub onward : Node → Here → Here
onward e h = entering (beyond e h.within) h

-- a list that is not the top level
abbrev pub NotTop : Within → Type 0
NotTop (top earlier) = ⊥
NotTop element = Unit {0}
NotTop inner = Unit {0}

-- an expression that is no bytecode form
abbrev pub NoBytecode : Node → Type 0
NoBytecode (leaf r a) = Unit {0}
NoBytecode (branch r es) = Unit {0}
NoBytecode (bytecode r es o) = ⊥

-- what the first of a list leaves, with what the others do
abbrev pub together : Left → Left → Left
together one others = record { values = append one.values others.values; here = others.here }

-- the nodes of a list evaluated one after the other
unfoldable pub in_list : Call → Nodes → Here → Run Left
in_list call empty h = give (record { values = none; here = h })
in_list call (cons e es) h =
    bind (eval call e h) λ one. bind (in_list call es (onward e one.here)) λ others. give (together one others)

-- the nodes without the first so many
unfoldable pub skip : ℕ → Nodes → Nodes
skip zero es = es
skip (suc k) empty = empty
skip (suc k) (cons e es) = skip k es
