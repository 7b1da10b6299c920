use Rattle.std.proofs.Common.{◌++◌, take}
use Rattle.log_cleaner.proofs.copies.with_first.Given as goal

abbrev pub ghost-copies_behind : goal.ghost-copies_behind
ghost-copies_behind a = a._done.now.value.items ++ take a._count a._more.now.value.items
