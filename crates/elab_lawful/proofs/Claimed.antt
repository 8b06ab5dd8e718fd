-- What a module declares without faults, part by part.
use Rattle.std.specs.Prelude.{ℕ, List, [], ◌++◌}
use Rattle.std.proofs.Common.{◌≡◌}
use Rattle.rtl_tree.specs.TreeModule.{Circuit}
use Rattle.elab_laws.specs.elab_scope.Names.{Meanings, numbers_in}
use Rattle.elab_laws.proofs.elab_scope_proofs.Sound.{nil_left, nil_right}
use Rattle.elab_flat.specs.elab_items.Claims.{all_claim_faults, all_direction_faults, no_course}
use Rattle.elab_flat.specs.elab_items.Declarations.{Declaration, declarations}
use Rattle.elab_flat.specs.elab_items.Drafts.{all_draft_faults, no_draft}
use Rattle.elab_flat.specs.elab_items.Rosters.{limit_faults, no_roster}
use Rattle.elab_flat.specs.elab_items.Scopes.{all_name_faults, claims_of, declaration_faults, draft_of, faults_after, roster_from, roster_of}
use Rattle.elab_flat.specs.elab_items.Settings.{Settings}
use Rattle.elab_flat.proofs.elab_items_proofs.Lawful.{all_lawful, draft_lawful}
use Rattle.elab_flat.proofs.elab_items_proofs.Places.{Stands, all_stand}

pub claim_part : (settings : Settings) (base : ℕ) (c : Circuit) → declaration_faults settings base c ≡ [] → all_claim_faults (numbers_in (draft_of settings (declarations c))) no_course (declarations c) ≡ []
claim_part settings base c h =
    let ds : List Declaration = declarations c in
    let draft : Meanings = draft_of settings ds in
    let claims = all_claim_faults (numbers_in draft) no_course ds in
    let directions = all_direction_faults (claims_of draft ds) ds in
    let names = all_name_faults settings (roster_from draft ds).scope ds in
    let limit = limit_faults base (roster_from draft ds).signals in
    nil_left claims directions (nil_left (claims ++ directions) names (nil_left (claims ++ directions ++ names) limit (nil_right (all_draft_faults settings no_draft ds) (faults_after settings base draft ds) h)))

-- each name that is a signal has its place in the list of the module's signals
pub stands : (settings : Settings) (base : ℕ) (c : Circuit) → declaration_faults settings base c ≡ [] → Stands (roster_of settings (declarations c))
stands settings base c h =
    let ds : List Declaration = declarations c in
    let draft : Meanings = draft_of settings ds in
    let numbers : all_draft_faults settings no_draft ds ≡ [] =
    nil_left (all_draft_faults settings no_draft ds) (faults_after settings base draft ds) h in
    all_stand draft (claims_of draft ds) no_roster ds (draft_lawful settings no_draft ds numbers (λ name. tt) tt) (all_lawful (numbers_in draft) no_course ds (claim_part settings base c h) (λ name. tt) tt) (record { names = λ name. tt; wide = tt })
