-- Where no count rises and what is read is in order, a command is done, unless memory is wanted.
use Rattle.std.proofs.Common.{◌≡◌, ◌⊎◌, inl, inr, ℕ, Bool, List, Option, None, Some, Result, Ok, Err, refl, sym, ap, subst, ◌∙◌, arith}
use Rattle.toml.specs.Data.{Members}
use Rattle.wol_disk.specs.Disk.{Rose, State}
use Rattle.wol_bay.specs.Bay.{BayState}
use Rattle.wol_config.specs.Configs.{IsDocument, IsRefusal}
use Rattle.wol_config.specs.Documents.{document_fault}
use Rattle.wol_config.specs.declared.config.Config.{Config}
use Rattle.wol_config.specs.declared.config.ConfigFault.{ConfigFault}
use Rattle.wol_config.specs.declared.config.ConfigFault.TheVariants as refused
use Rattle.std.specs.Prelude.{IfErr}
use Rattle.rack.specs.Missing.{RefusesMissing}
use Rattle.rack.specs.declared.missing.MissingFault.{MissingFault}
use Rattle.command_words.specs.declared.command.Generated.{Generated}
use Rattle.wol_run.specs.Adding.{RunsMissing, answer_status, missing_status}
use Rattle.wol_run.specs.Formatting.{RunsFormat}
use Rattle.wol_run.specs.Generating.{RunsGen}
use Rattle.wol_run.specs.Settings.{HasNoConfig, IsConfigured, IsRefusedFor}
use Rattle.wol_run.specs.Tops.{IsDoneOrMemory}
use Rattle.wol_run.proofs.Added.{MissingEnd, missing_end}
use Rattle.wol_run.proofs.Added as end
use Rattle.wol_run.proofs.FormatEndings.{ends_format}
use Rattle.wol_run.proofs.GenEndings.{ends_gen}
use Rattle.wol_run.proofs.Unread.{ends_unread, wanted_or_sink}

-- no bytes are a configuration and none
pub no_both : (left : Option (List ℕ)) → IsConfigured left → HasNoConfig left → ⊥
no_both left is none = by none.why none.fault (subst (λ (o : Option (List ℕ)). IsRefusedFor o none.why) is.told none.refused)
  where
    other : (document : Members) → IsDocument is.bytes document → (e : ConfigFault) → document_fault document ≡ Some e → ⊥
    other document parsed e at =
        let same : document ≡ is.has.0 = cc (parsed.parsed, is.has.1.parsed) in
        let no : Some e ≡ None = sym at ∙ ap document_fault same ∙ is.has.2.faultless in cc

    by : (why : ConfigFault) → (why ≡ refused.NoMemory → ⊥) → IsRefusal is.bytes why → ⊥
    by refused.NoMemory fault at = fault refl
    by refused.NotToml fault at = at.1 is.has.0 is.has.1
    by refused.TooLong fault at = absurd (omega (arith, at, is.has.1.few))
    by (refused.Missing key) fault at = other at.0 at.1 (refused.Missing key) at.2
    by (refused.WrongKind key) fault at = other at.0 at.1 (refused.WrongKind key) at.2
    by (refused.OutOfRange key) fault at = other at.0 at.1 (refused.OutOfRange key) at.2
    by (refused.Twice volume name) fault at = other at.0 at.1 (refused.Twice volume name) at.2
    by (refused.BadView volume name) fault at = other at.0 at.1 (refused.BadView volume name) at.2

pub complete_gen : (asked : Generated) (read : Option Config) (left : Option (List ℕ)) (faults faults' status : ℕ) (printed new : Option (List ℕ)) → IsConfigured left → ¬ Rose faults faults' → (status ≡ 7 → ⊥) → RunsGen asked read left faults faults' status printed new → IsDoneOrMemory status
complete_gen asked read left faults faults' status printed new is calm whole run = elim (ends_gen asked read left faults faults' status printed new run) [
  | inl done ↦ inl done
  | inr (inl (two, none)) ↦ absurd (no_both left is none)
  | inr (inr (inl seven)) ↦ absurd (whole seven)
  | inr (inr (inr (inl (eight, rose)))) ↦ absurd (calm rose)
  | inr (inr (inr (inr memory))) ↦ inr memory
]

pub complete_format : (read : Option Config) (left : Option (List ℕ)) (faults faults' : ℕ) (old new : BayState) (status : ℕ) (printed now : Option (List ℕ)) → IsConfigured left → ¬ Rose faults faults' → ¬ Rose old.faults new.faults → (status ≡ 7 → ⊥)
    → RunsFormat read left faults faults' old new status printed now → IsDoneOrMemory status
complete_format read left faults faults' old new status printed now is calm bay_calm whole run = elim (ends_format read left faults faults' old new status printed now run) [
  | inl done ↦ inl done
  | inr (inl (two, none)) ↦ absurd (no_both left is none)
  | inr (inr (inl (four, rose))) ↦ absurd (bay_calm rose)
  | inr (inr (inr (inl seven))) ↦ absurd (whole seven)
  | inr (inr (inr (inr (inl (eight, rose))))) ↦ absurd (calm rose)
  | inr (inr (inr (inr (inr memory)))) ↦ inr memory
]

-- how `format NAME` comes to its end
abbrev pub EndsMissing : (status : ℕ) → Type 0
EndsMissing status = IsDoneOrMemory status ⊎ ((status ≡ 5) ⊎ (status ≡ 12) ⊎ (status ≡ 15))

module _ {D : Type 0} (tells : Bool) (state : D → State) (name : List ℕ) (left : Option (List ℕ)) (faults faults' : ℕ) (old new : BayState) (status : ℕ) (printed now : Option (List ℕ))
    (is : IsConfigured left) (calm : ¬ Rose faults faults') (bay_calm : ¬ Rose old.faults new.faults) (whole : status ≡ 7 → ⊥) where
  of_missing_end : (f : MissingFault) (n : ℕ) → status ≡ n → MissingEnd old new f n → EndsMissing status
  of_missing_end f n same (end.failed rose) = absurd (bay_calm rose)
  of_missing_end f n same end.memory = inl (inr same)
  of_missing_end f n same (end.there it) = inr (inr (inr same))
  of_missing_end f n same (end.in_view k it) = inr (inr (inr same))
  of_missing_end f n same (end.segment k index it) = inr (inr (inr same))
  of_missing_end f n same (end.image k g it (inl five)) = inr (inl (same ∙ five))
  of_missing_end f n same (end.image k g it (inr twelve)) = inr (inr (inl (same ∙ twelve)))

  of_result : (config : Config) (id : ℕ) (r : Result (Unit {0}) MissingFault) → IfErr r (RefusesMissing tells state config id old new) → status ≡ answer_status r → EndsMissing status
  of_result config id (Ok done) why same = inl (inl same)
  of_result config id (Err f) why same = of_missing_end f (missing_status f) same (missing_end tells state config id old new f why)

  of_memory : status ≡ 9 → EndsMissing status
  of_memory nine = inl (inr nine)

  pub complete_missing : (read : Option Config) → RunsMissing tells state name read left faults faults' old new status printed now → EndsMissing status
  complete_missing (Some config) (inl unknown) = elim unknown.ends [
    | inl ends ↦ elim (wanted_or_sink _ 15 status printed now ends) [ inl same ↦ inr (inr (inr same)) | inr seven ↦ absurd (whole seven) ]
    | inr ends ↦ elim (wanted_or_sink _ 9 status printed now ends) [ inl nine ↦ of_memory nine | inr seven ↦ absurd (whole seven) ]
  ]
  complete_missing (Some config) (inr run) = elim run.ends [
    | inl ends ↦ elim (wanted_or_sink _ (answer_status run.result) status printed now ends) [ inl same ↦ of_result config run.id run.result run.refused same | inr seven ↦ absurd (whole seven) ]
    | inr ends ↦ elim (wanted_or_sink _ 9 status printed now ends) [ inl nine ↦ of_memory nine | inr seven ↦ absurd (whole seven) ]
  ]
  complete_missing None unread = elim (wanted_or_sink unread.text unread.wanted status printed now unread.ends) [
    | inl same ↦ elim (ends_unread left faults faults' unread.text unread.wanted unread.untouched.line_) [
      | inl (two, none) ↦ absurd (no_both left is none)
      | inr (inl (eight, rose)) ↦ absurd (calm rose)
      | inr (inr nine) ↦ of_memory (same ∙ nine)
    ]
    | inr seven ↦ absurd (whole seven)
  ]
