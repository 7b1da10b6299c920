-- What a format writes to the parts of an image, and what that makes of their blocks.
use Rattle.std.specs.Prelude.{◌≡◌, ◌≤◌, ℕ, List, ⊤}
use Rattle.wol_disk.specs.Disk.{Block}
use Rattle.wol_model.specs.Heads.{IsShape}
use Rattle.log_layout.specs.Values.{shape_of}
use Rattle.logger_view.specs.Stored.{with_label, with_view, with_free_head}
use Rattle.volume_images.specs.declared.content.Content.{Content}
use Rattle.volume_images.specs.declared.content.Content.TheVariants.{View, Nothing, FreeHead, Label}

-- the blocks of a part with the content
abbrev pub changed : Content → List Block → List Block
changed (View ids) bs = with_view ids bs
changed Nothing bs = bs
changed FreeHead bs = with_free_head bs
changed (Label label) bs = with_label label.id (shape_of label) bs

-- a part of this size has room for the content, and a label is one
abbrev pub Fits : Content → (size : ℕ) → Type 0
Fits (View ids) size = size ≡ 2
Fits Nothing size = ⊤
Fits FreeHead size = 1 ≤ size
Fits (Label label) size = (size ≡ 2) × IsShape (shape_of label)
