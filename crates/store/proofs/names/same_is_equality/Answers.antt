use Rattle.store.proofs.Equality.{days_decide, listings_decide, names_decide}
use Rattle.store.proofs.names.same_is_equality.Goals as goal

pub returns-clause-name : goal.returns-clause-name
returns-clause-name c = names_decide

pub returns-clause-day : goal.returns-clause-day
returns-clause-day c = days_decide

pub returns-clause-listing : goal.returns-clause-listing
returns-clause-listing c = listings_decide
