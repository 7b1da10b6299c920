use Rattle.run_laws.proofs.laws.account_laws.Goals as goal
use Rattle.run_laws.proofs.Accounts.{account_covers, no_account}

pub returns-clause-covers : goal.returns-clause-covers
returns-clause-covers c = account_covers

pub returns-clause-none : goal.returns-clause-none
returns-clause-none c = no_account
