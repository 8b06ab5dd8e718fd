-- What is declared with the numbers of a draft is what the module declares.
use Rattle.std.specs.Prelude.{ℕ, List, ◌++◌, map, Option, Result, IfOk}
use Rattle.std.specs.Option.{option_map}
use Rattle.std.proofs.Common.{◌≡◌, ◌∙◌, ap, sym, subst}
use Rattle.text_ground.specs.declared.memory.Memory.{Memory}
use Rattle.rtl_tree.specs.TreeModule.{Circuit}
use Rattle.elab_scope.specs.Faults.{Refusal, after, refusal}
use Rattle.elab_scope.specs.Names.{Meanings, meanings}
use Rattle.elab_scope.proofs.Least.{after_append}
use Rattle.elab_items.specs.declared.declare.Declared.{Declared}
use Rattle.elab_items.specs.Declarations.{Declaration, declarations}
use Rattle.elab_items.specs.Drafts.{all_draft_faults, no_draft}
use Rattle.elab_items.specs.Rosters.{Roster, listing}
use Rattle.elab_items.specs.Scopes.{declaration_faults, draft_of, faults_after, listings_of, roster_from, roster_of, scope_of}
use Rattle.elab_items.specs.Settings.{Settings}

roster_is : (settings : Settings) (ds : List Declaration) (c : Circuit) (draft : Meanings) → ds ≡ declarations c → draft ≡ draft_of settings ds → roster_from draft ds ≡ roster_of settings (declarations c)
roster_is settings ds c draft all numbers =
    ap (λ draft. roster_from draft ds) numbers ∙ ap (λ ds. roster_from (draft_of settings ds) ds) all

pub names_declared : (result : Result Declared Memory) (settings : Settings) (ds : List Declaration) (c : Circuit) (draft : Meanings) → ds ≡ declarations c → draft ≡ draft_of settings ds → IfOk result (λ made. meanings made.names ≡ (roster_from draft ds).scope) → IfOk result (λ made. meanings made.names ≡ scope_of settings c)
names_declared result settings ds c draft all numbers told =
    subst (λ (roster : Roster). IfOk result (λ made. meanings made.names ≡ roster.scope)) (roster_is settings ds c draft all numbers) told

pub signals_declared : (result : Result Declared Memory) (settings : Settings) (ds : List Declaration) (c : Circuit) (draft : Meanings) → ds ≡ declarations c → draft ≡ draft_of settings ds → IfOk result (λ made. map listing made.signals.items ≡ (roster_from draft ds).signals) → IfOk result (λ made. map listing made.signals.items ≡ listings_of settings c)
signals_declared result settings ds c draft all numbers told =
    subst (λ (roster : Roster). IfOk result (λ made. map listing made.signals.items ≡ roster.signals)) (roster_is settings ds c draft all numbers) told

faults_are : (settings : Settings) (base : ℕ) (ds : List Declaration) (c : Circuit) (draft : Meanings) (first best : Option Refusal) → ds ≡ declarations c → draft ≡ draft_of settings ds → best ≡ after first (all_draft_faults settings no_draft ds) → after best (faults_after settings base draft ds) ≡ after first (declaration_faults settings base c)
faults_are settings base ds c draft first best all numbers so_far =
    ap (λ draft. after best (faults_after settings base draft ds)) numbers
    ∙ ap (λ best. after best (faults_after settings base (draft_of settings ds) ds)) so_far
    ∙ sym (after_append first (all_draft_faults settings no_draft ds) (faults_after settings base (draft_of settings ds) ds))
    ∙ ap (λ ds. after first (all_draft_faults settings no_draft ds ++ faults_after settings base (draft_of settings ds) ds)) all

pub best_declared : (result : Result Declared Memory) (settings : Settings) (base : ℕ) (ds : List Declaration) (c : Circuit) (draft : Meanings) (first best : Option Refusal) → ds ≡ declarations c → draft ≡ draft_of settings ds → best ≡ after first (all_draft_faults settings no_draft ds) → IfOk result (λ made. option_map refusal made.best ≡ after best (faults_after settings base draft ds)) → IfOk result (λ made. option_map refusal made.best ≡ after first (declaration_faults settings base c))
best_declared result settings base ds c draft first best all numbers so_far told =
    subst (λ (told : Option Refusal). IfOk result (λ made. option_map refusal made.best ≡ told)) (faults_are settings base ds c draft first best all numbers so_far) told
