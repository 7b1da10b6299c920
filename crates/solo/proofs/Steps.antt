-- What a line asks for, in the form in which the program met it.
use Rattle.std.proofs.Common.{◌≡◌, ℕ, List, [], Option, sym}
use Rattle.wol_disk.specs.Disk.{Block}
use Rattle.wol_model.specs.Trace.{Request}
use Rattle.wol_io.proofs.Appending.{keeps_same}
use Rattle.solo.specs.Served.{Answered, content_after}
use Rattle.solo.proofs.Answering.{answered_none}
use Rattle.solo.proofs.Marks.{content_none}

-- nothing was asked
pub none_asked : (rs : List Request) (array : Option (List Block)) (old : Option (List ℕ)) → rs ≡ [] → Answered array rs old old
none_asked rs array old none = rw none (answered_none array old old (keeps_same old))

pub none_changed : (rs : List Request) (array : Option (List Block)) → rs ≡ [] → array ≡ content_after rs array
none_changed rs array none = rw none (sym (content_none array))
