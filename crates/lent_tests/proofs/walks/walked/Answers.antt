-- `lent_tests::walks::walked` lends a walk what it asks. Assumes nothing.
use Rattle.walk.proofs.Lending.{lends_one}
use Rattle.lent_tests.proofs.walks.walked.Goals as goal

pub walk_list-requires : goal.walk_list-requires
walk_list-requires g c = lends_one _ c.in_ok-validity.ensures
