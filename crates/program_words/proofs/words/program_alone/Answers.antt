use Rattle.std.proofs.Common.{◌≡◌, ◌∙◌, true, ap, codes}
use Rattle.clap.specs.Words.{app_of, new_app}
use Rattle.clap.specs.Simple.{app_of_fields, on_top}
use Rattle.program_words.proofs.words.program_alone.Goals as goal

pub returns : goal.returns
returns c =
    let named : app_of c.in_ok-bin_name.field-0 ≡ new_app (codes "uring_replay") = ap app_of_fields c.in_ok-bin_name.ensures.0 ∙ c.new.ensures.app in
    let told : app_of c.after_help.result ≡ new_app (codes "uring_replay") = ap app_of_fields c.after_help.ensures ∙ ap app_of_fields c.about.ensures ∙ named in
    let versioned : app_of c.version.result ≡ on_top (λ s. record s { has_version = true }) (new_app (codes "uring_replay")) =
    ap app_of_fields c.version.ensures ∙ ap (on_top (λ s. record s { has_version = true })) told in
    let without_name : app_of c.no_binary_name.result ≡ on_top (λ s. record s { has_version = true; no_binary_name = true }) (new_app (codes "uring_replay")) =
    ap app_of_fields c.no_binary_name.ensures ∙ ap (on_top (λ s. record s { no_binary_name = true })) versioned in
    ap app_of_fields c.subcommand_required-command.ensures ∙ ap (on_top (λ s. record s { subcommand_required = true })) without_name
