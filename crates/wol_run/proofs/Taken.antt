-- What the bytes that were taken of a source say of its configuration.
use Rattle.std.proofs.Common.{◌≡◌, ℕ, ◌<◌, ◌≤◌, List, length, Option, None, Some, inl, inr, ◌∙◌, append-nil, length-append, arith}
use Rattle.std.specs.Io.KnownBytes.{Consumes, IsAtEnd}
use Rattle.toml.specs.Data.{Members}
use Rattle.wol_config.specs.declared.config.Config.{Config}
use Rattle.wol_config.specs.declared.config.ConfigFault.{ConfigFault}
use Rattle.wol_config.specs.declared.config.ConfigFault.TheVariants.{TooLong}
use Rattle.wol_config.specs.Configs.{IsDocument, IsConfigOf, IsRefusal, IsValid, byte_limit}
use Rattle.wol_run.specs.Settings.{HasConfig, IsRefusedFor, IsTaken}

-- nothing was left behind them
pub taken_whole : (left now : Option (List ℕ)) (bytes : List ℕ) → Consumes left now bytes → IsAtEnd now → length bytes ≤ byte_limit → IsTaken left bytes
taken_whole None now bytes h end few = tt
taken_whole (Some all) None bytes h end few = absurd h
taken_whole (Some all) (Some rest) bytes h end few = inl (h ∙ rw end (append-nil bytes), few)

-- they are too many
pub taken_long : (left now : Option (List ℕ)) (bytes : List ℕ) → Consumes left now bytes → byte_limit < length bytes → IsTaken left bytes
taken_long None now bytes h many = tt
taken_long (Some all) None bytes h many = absurd h
taken_long (Some all) (Some rest) bytes h many = inr (rest, h, many)

pub has_config : (left : Option (List ℕ)) (bytes : List ℕ) (config : Config) → IsTaken left bytes → (document : Members) → IsDocument bytes document → IsConfigOf document config → IsValid config → HasConfig left config
has_config None bytes config taken document is of valid = valid
has_config (Some all) bytes config (inl (same, few)) document is of valid = (document, rw same is, of)
has_config (Some all) bytes config (inr (rest, front, many)) document is of valid = absurd (omega (arith, many, is.few))

pub refused_for : (left : Option (List ℕ)) (bytes : List ℕ) (why : ConfigFault) → IsTaken left bytes → IsRefusal bytes why → (byte_limit < length bytes → why ≡ TooLong) → IsRefusedFor left why
refused_for None bytes why taken is long = tt
refused_for (Some all) bytes why (inl (same, few)) is long = rw same is
refused_for (Some all) bytes why (inr (rest, front, many)) is long =
    let more : byte_limit < length all = rw (front, length-append) (omega (arith, many)) in rw (long many) more
