-- What is dropped, and delays.
use Rattle.std.proofs.Common.{ℕ, ◌≡◌, ◌∙◌, ◌+◌, ◌<◌, true, List, [], ◌∷◌, ◌++◌, map, length, take, get_or, None, Some, refl, sym, ap, subst, inl, append-nil, ◌↔◌}
use Rattle.std.specs.List.{cons_option, filter_map, slice_get}
use Rattle.std.proofs.lemmas.List.{map-append, take_more}
use Rattle.std.proofs.lemmas.List.Elements.{filter_map-append}
use Rattle.std.proofs.lemmas.Bool.{false≢true}
use Rattle.text_ground.specs.declared.dropped.DropKind.{DropKind}
use Rattle.text_ground.specs.declared.dropped.DropKind.TheVariants.{Comment, Initial, TranslateOff}
use Rattle.rtl_flat.specs.declared.instance.Delay.{Delay}
use Rattle.rtl_flat.specs.declared.instance.DroppedRegion.{DroppedRegion}
use Rattle.rtl_flat.specs.Process.{Task}
use Rattle.rtl_rule.specs.declared.finding.Finding.{Finding}
use Rattle.rtl_rule.specs.declared.rule.Rule.{Rule}
use Rattle.rtl_flat.specs.Flats.{Flat, Parts}
use Rattle.rtl_rule.specs.Sites.{AreFindings, AreThose}
use Rattle.check_unknown.specs.Lists.{delays_found, is_kind, regions}
use Rattle.check_unknown.specs.Unknowns.{AreDelayIgnored, at_region, delay_ignored_at, delay_sites, in_task}
use Rattle.check_unknown.proofs.Lists.{found_by}

kind_is : (one other : DropKind) → (is_kind one other ≡ true) ↔ (one ≡ other)
kind_is Initial Initial = (λ _. refl, λ _. refl)
kind_is Initial TranslateOff = (λ h. absurd (false≢true h), λ h. absurd (cc))
kind_is TranslateOff Initial = (λ h. absurd (false≢true h), λ h. absurd (cc))
kind_is Initial Comment = (λ h. absurd (false≢true h), λ h. absurd (cc))
kind_is TranslateOff TranslateOff = (λ _. refl, λ _. refl)
kind_is TranslateOff Comment = (λ h. absurd (false≢true h), λ h. absurd (cc))
kind_is Comment Initial = (λ h. absurd (false≢true h), λ h. absurd (cc))
kind_is Comment TranslateOff = (λ h. absurd (false≢true h), λ h. absurd (cc))
kind_is Comment Comment = (λ _. refl, λ _. refl)

pub regions_found : (name : Rule) (kind : DropKind) (dropped seen : List DroppedRegion) (found : List Finding) → seen ≡ dropped → found ≡ regions name kind seen → AreFindings (λ (one : DroppedRegion). one.kind ≡ kind) (at_region name) dropped found
regions_found name kind dropped seen found same is =
    subst (λ fs. AreFindings (λ (one : DroppedRegion). one.kind ≡ kind) (at_region name) dropped fs) (sym (is ∙ ap (regions name kind) same))
    (found_by (λ (one : DroppedRegion). one.kind ≡ kind) (λ one. is_kind one.kind kind) (λ one. kind_is one.kind kind) (at_region name) dropped)

-- ---- delays

those_all : {A : Type 0} (xs : List A) → AreThose (λ (x : A). Unit {0}) xs xs
those_all [] = refl
those_all (x ∷ xs) = inl (tt, xs, refl, those_all xs)

pub delays_all : (d : Parts) (found : List Finding) → found ≡ delays_found d.flat d.delays → AreDelayIgnored d found
delays_all d found is =
    record { broken = delay_sites d; those = those_all (delay_sites d); shown = is }

pub delays_more : (d : Flat) (seen delays : List Delay) → seen ≡ delays → (i : ℕ) → i < length delays → (default : Delay) (old new : List Finding) → old ≡ delays_found d (take i delays) → new ≡ old ++ delays_found d (get_or seen i default ∷ []) → new ≡ delays_found d (take (i + 1) delays)
delays_more d seen delays same i inside default old new before more =
    let h = λ (one : Delay). in_task one (slice_get d.tasks one.process.0) in
    let delay = get_or delays i default in
    more ∙ ap (λ fs. fs ++ delays_found d (get_or seen i default ∷ [])) before
    ∙ ap (λ (ds : List Delay). delays_found d (take i delays) ++ delays_found d (get_or ds i default ∷ [])) same
    ∙ sym (ap (delays_found d) (take_more delays i default inside) ∙ ap (map (delay_ignored_at d)) (filter_map-append h (take i delays) (delay ∷ [])) ∙ map-append (delay_ignored_at d) (filter_map h (take i delays)) (filter_map h (delay ∷ [])))

-- a delay of a process that isn't there
pub delay_nowhere : (d : Flat) (delay : Delay) (fs : List Finding) → slice_get d.tasks delay.process.0 ≡ None → fs ≡ fs ++ delays_found d (delay ∷ [])
delay_nowhere d delay fs none =
    sym (ap (λ o. fs ++ map (delay_ignored_at d) (cons_option (in_task delay o) [])) none ∙ append-nil fs)

pub delay_there : (d : Flat) (delay : Delay) (task : Task) (fs : List Finding) (one : Finding) → slice_get d.tasks delay.process.0 ≡ Some task → one ≡ delay_ignored_at d (record { process = delay.process.0; task = task; it = delay }) → fs ++ one ∷ [] ≡ fs ++ delays_found d (delay ∷ [])
delay_there d delay task fs one there is =
    ap (λ f. fs ++ f ∷ []) is
    ∙ sym (ap (λ o. fs ++ map (delay_ignored_at d) (cons_option (in_task delay o) [])) there)
