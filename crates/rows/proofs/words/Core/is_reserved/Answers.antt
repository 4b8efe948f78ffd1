-- `rows::words::Core::is_reserved` meets its contract. Assumes nothing.
use borrow.Author.Rules.{rules}
use mathlib.Core.Path.{sym, ◌∙◌}
use Rattle.rows.proofs.Keys.{key_between}
use Rattle.rows.proofs.words.Core.is_reserved.Goals as goal

pub returns-else-is_function : goal.returns-else-is_function
returns-else-is_function c = rw (sym c.is_function.ensures ∙ c.if-is_function.false) (key_between _ _ (search rules) (search rules))
