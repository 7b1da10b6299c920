use Rattle.std.proofs.Common.{◌≡◌, ◌∙◌, true, ap, ap₂, codes}
use Rattle.std.proofs.lemmas.Result.{IfOk-weaker}
use Rattle.clap.specs.Words.{App, app_of, new_app, with_subcommand}
use Rattle.clap.specs.Simple.{Shape, app_of_fields, on_top}
use Rattle.command_words.specs.Application.{bare_app, with_maybe_name, with_name, with_names, with_options, with_served, with_trace, with_volume, with_what_if}
use Rattle.command_words.proofs.application.application.Goals as goal

pub returns : goal.returns
returns c =
    let named : app_of c.no_binary_name.result ≡ on_top (λ (s : Shape). record s { no_binary_name = true }) (new_app (codes "wol")) =
    ap app_of_fields c.no_binary_name.ensures ∙ ap (on_top (λ (s : Shape). record s { no_binary_name = true })) c.new.ensures.app in
    let helped = ap app_of_fields c.disable_help_flag.ensures ∙ ap (on_top (λ (s : Shape). record s { disable_help_flag = true })) named in
    let alone = ap app_of_fields c.disable_help_subcommand.ensures ∙ ap (on_top (λ (s : Shape). record s { disable_help_subcommand = true })) helped in
    let unversioned = ap app_of_fields c.disable_version_flag.ensures ∙ ap (on_top (λ (s : Shape). record s { disable_version_flag = true })) alone in
    let bare : app_of c.subcommand_required.result ≡ bare_app =
    ap app_of_fields c.subcommand_required.ensures ∙ ap (on_top (λ (s : Shape). record s { subcommand_required = true })) unversioned in
    let solo : app_of c.in_ok-of_volume.field-0 ≡ with_volume (new_app (codes "solo")) = c.in_ok-of_volume.ensures.app ∙ ap with_volume c.new-2.ensures.app in
    let format : app_of c.in_ok-of_maybe_name.field-0 ≡ with_maybe_name (new_app (codes "format")) = c.in_ok-of_maybe_name.ensures.app ∙ ap with_maybe_name c.new-3.ensures.app in
    let replay : app_of c.in_ok-of_options.field-0 ≡ with_options (new_app (codes "replay")) = c.in_ok-of_options.ensures.app ∙ ap with_options c.new-4.ensures.app in
    let gen : app_of c.in_ok-of_pair.field-0 ≡ with_trace (new_app (codes "gen")) = c.in_ok-of_pair.ensures.app ∙ ap with_trace c.new-7.ensures.app in
    let view_add : app_of c.in_ok-of_pair-2.field-0 ≡ with_names (new_app (codes "view-add")) = c.in_ok-of_pair-2.ensures.app ∙ ap with_names c.new-9.ensures.app in
    let view_remove : app_of c.in_ok-of_pair-3.field-0 ≡ with_names (new_app (codes "view-remove")) = c.in_ok-of_pair-3.ensures.app ∙ ap with_names c.new-10.ensures.app in
    let nbd : app_of c.in_ok-of_name.field-0 ≡ with_name (new_app (codes "nbd")) = c.in_ok-of_name.ensures.app ∙ ap with_name c.new-12.ensures.app in
    let what_if : app_of c.in_ok-of_what_if.field-0 ≡ with_what_if (new_app (codes "whatif")) = c.in_ok-of_what_if.ensures.app ∙ ap with_what_if c.new-8.ensures.app in
    let serve : app_of c.in_ok-of_served.field-0 ≡ with_served (new_app (codes "serve")) = c.in_ok-of_served.ensures.app ∙ ap with_served c.new-13.ensures.app in
    let soak : app_of c.in_ok-of_options-2.field-0 ≡ with_options (with_trace (new_app (codes "soak"))) =
    c.in_ok-of_options-2.ensures.app ∙ ap with_options (c.in_ok-of_pair-4.ensures.app ∙ ap with_trace c.new-14.ensures.app) in
    let one = c.in_ok-subcommand.ensures.shape (c.in_ok-of_volume.ensures.globals ∙ c.new-2.ensures.local) ∙ ap₂ with_subcommand bare (ap (λ (a : App). a.top) solo) in
    let two = c.in_ok-subcommand-2.ensures.shape (c.in_ok-of_maybe_name.ensures.globals ∙ c.new-3.ensures.local) ∙ ap₂ with_subcommand one (ap (λ (a : App). a.top) format) in
    let three = c.in_ok-subcommand-3.ensures.shape (c.in_ok-of_options.ensures.globals ∙ c.new-4.ensures.local) ∙ ap₂ with_subcommand two (ap (λ (a : App). a.top) replay) in
    let four = c.in_ok-subcommand-4.ensures.shape c.new-5.ensures.local ∙ ap₂ with_subcommand three (ap (λ (a : App). a.top) c.new-5.ensures.app) in
    let five = c.in_ok-subcommand-5.ensures.shape c.new-6.ensures.local ∙ ap₂ with_subcommand four (ap (λ (a : App). a.top) c.new-6.ensures.app) in
    let six = c.in_ok-subcommand-6.ensures.shape (c.in_ok-of_pair.ensures.globals ∙ c.new-7.ensures.local) ∙ ap₂ with_subcommand five (ap (λ (a : App). a.top) gen) in
    let seven = c.in_ok-subcommand-7.ensures.shape (c.in_ok-of_what_if.ensures.globals ∙ c.new-8.ensures.local) ∙ ap₂ with_subcommand six (ap (λ (a : App). a.top) what_if) in
    let eight = c.in_ok-subcommand-8.ensures.shape (c.in_ok-of_pair-2.ensures.globals ∙ c.new-9.ensures.local) ∙ ap₂ with_subcommand seven (ap (λ (a : App). a.top) view_add) in
    let nine = c.in_ok-subcommand-9.ensures.shape (c.in_ok-of_pair-3.ensures.globals ∙ c.new-10.ensures.local) ∙ ap₂ with_subcommand eight (ap (λ (a : App). a.top) view_remove) in
    let ten = c.in_ok-subcommand-10.ensures.shape c.new-11.ensures.local ∙ ap₂ with_subcommand nine (ap (λ (a : App). a.top) c.new-11.ensures.app) in
    let eleven = c.in_ok-subcommand-11.ensures.shape (c.in_ok-of_name.ensures.globals ∙ c.new-12.ensures.local) ∙ ap₂ with_subcommand ten (ap (λ (a : App). a.top) nbd) in
    let twelve = c.in_ok-subcommand-12.ensures.shape (c.in_ok-of_served.ensures.globals ∙ c.new-13.ensures.local) ∙ ap₂ with_subcommand eleven (ap (λ (a : App). a.top) serve) in
    IfOk-weaker c.subcommand-13.result _ _
    (λ made h. h.shape (c.in_ok-of_options-2.ensures.globals ∙ c.in_ok-of_pair-4.ensures.globals ∙ c.new-14.ensures.local) ∙ ap₂ with_subcommand twelve (ap (λ (a : App). a.top) soak))
    c.subcommand-13.ensures
