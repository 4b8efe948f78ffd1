-- `bulk_list::list`: as many rows are printed as Read gave, and these are there. Assumes nothing.
use Rattle.bulk.proofs.Given.{given_rows}
use Rattle.bulk_list.proofs.list.Goals as goal

pub print_table-requires : goal.print_table-requires
print_table-requires g c = given_rows _ _ _ _ _ c.in-Ok.is c.read.ensures
