-- The lines of `check` and `dump`.
use Rattle.std.specs.Prelude.{◌≡◌, ℕ, List, [], ◌∷◌, ◌++◌, codes, decimal}
use Rattle.std.specs.Int.{w128, to_be_bytes}
use Rattle.hex.specs.Hex.{encode_lower}
use Rattle.sha2.specs.Sha256.{sha256}
use Rattle.wol_disk.specs.Disk.{Block, bytes_of}
use Rattle.wol_model.specs.Index.{Indexed, listed_in, is_live, is_homed}
use Rattle.block_cells.specs.Masks.{IsMask}
use Rattle.block_cells.specs.declared.record.Rec.{Rec}
use Rattle.redirect_map.specs.Index.{IsRecordOf}
use Rattle.report.specs.Words.{line_of}
use Rattle.report.specs.Names.{name_at}

-- ---- The line of `check`

-- the SHA-256 of blocks, in hexadecimal
abbrev pub digest_text : List Block → List ℕ
digest_text blocks = encode_lower (sha256 (bytes_of blocks))

-- the line of these values
unfoldable pub check_line : (name digest : List ℕ) → (records segments : ℕ) → List ℕ
check_line name digest records segments =
    line_of (name ∷ codes "ok sha256" ∷ digest ∷ codes "records" ∷ decimal records
    ∷ codes "segments" ∷ decimal segments ∷ [])

-- the line of a volume in order: its name, the digest of its array, how many valid records it has,
-- and how many segments are held for it
abbrev pub check_text : (name : List ℕ) → (array : List Block) → (records segments : ℕ) → List ℕ
check_text name array records segments = check_line name (digest_text array) records segments

-- ---- The lines of `dump`

-- a mask of 128 blocks in 32 hexadecimal digits, the highest first
abbrev pub mask_text : (mask : ℕ) → List ℕ
mask_text mask = encode_lower (to_be_bytes w128 mask)

-- the line of a volume in order: its name and how many valid records it has
unfoldable pub count_text : (name : List ℕ) → (records : ℕ) → List ℕ
count_text name records = line_of (name ∷ codes "records" ∷ decimal records ∷ [])

-- the line of these values of a record: its version and range, the segment of the logger of this
-- name, the position of its head there, and its live and its homed blocks
unfoldable pub record_line : Rec → (logger live home : List ℕ) → List ℕ
record_line r logger live home =
    line_of (codes "record" ∷ decimal r.version ∷ decimal r.lbn ∷ decimal r.count ∷ codes "on"
    ∷ logger ∷ codes "segment" ∷ decimal r.segment
    ∷ codes "block" ∷ decimal r.pos ∷ codes "live" ∷ live ∷ codes "home" ∷ home ∷ [])

-- This is the line of a record among these, in which the bits of the masks are its live and its
-- homed blocks, where these are the names of the loggers by the places of the view.
pub record IsRecordLine (names : List (List ℕ)) (es : List Indexed) (e : Indexed) (text : List ℕ) :
    Type 0 where
  pub shown : Rec
  pub live : ℕ
  pub home : ℕ
  pub shown_is : IsRecordOf e shown
  pub live_is : IsMask e.listed.first (is_live (listed_in es) e.listed) live
  pub home_is : IsMask e.listed.first (is_homed e.listed) home
  pub line_ : text
      ≡ record_line shown (name_at names e.listed.lane) (mask_text live) (mask_text home)

-- these are the lines of these records among all of them, in order
abbrev pub AreRecordLines : (names : List (List ℕ)) → (all es : List Indexed) → (text : List ℕ)
    → Type 0
AreRecordLines names all [] text = text ≡ []
AreRecordLines names all (e ∷ es) text =
    (line more : List ℕ) × (text ≡ line ++ more) × IsRecordLine names all e line
    × AreRecordLines names all es more
