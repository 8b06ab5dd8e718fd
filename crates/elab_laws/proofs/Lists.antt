-- Sensitivity lists without faults.
use Rattle.std.specs.Prelude.{ℕ, zero, suc, ◌+◌, ◌<◌, ◌==◌, if◌then◌else◌, Bool, true, false, ◌||◌, List, [], ◌∷◌, ◌++◌, map, length, Option, None, Some, Ok, Err}
use Rattle.std.specs.List.{All, list_any}
use Rattle.std.proofs.Common.{◌≡◌, ◌∙◌, ap, sym, refl, arith, inl, inr}
use Rattle.std.proofs.lemmas.Bool.{cases_Bool, true≢false}
use Rattle.std.proofs.lemmas.Bool.Decides.{nat_tests}
use Rattle.std.proofs.lemmas.List.Elements.{All-nil, All-cons}
use Rattle.rtl_const.specs.Constant.{Outcome, constant}
use Rattle.text_ground.specs.declared.text.Spot.{Spot}
use Rattle.rtl_tree.specs.declared.tree.item.EventEdge.{EventEdge}
use Rattle.rtl_tree.specs.declared.tree.item.EventEdge.TheVariants.{Posedge, Negedge}
use Rattle.rtl_tree.specs.TreeExpr.{Identifier}
use Rattle.rtl_tree.specs.TreeItem.{Happening, Edge as Edged, Change, ChangeBit, ChangePart, Sensitivity, Star, StarInParens, Listed}
use Rattle.rtl_flat.specs.declared.signal.Signal.{Signal}
use Rattle.rtl_flat.specs.Expression.{Tree}
use Rattle.rtl_flat.specs.Process.{Watched}
use Rattle.rtl_flat.specs.Signs.{Has, IsExpression, width_in}
use Rattle.rtl_flat.specs.WellFormed.{IsSelection, IsWatched, IsList, has_edge}
use Rattle.elab_body.specs.elab_scope.declared.context.Context.{Context}
use Rattle.elab_body.specs.elab_scope.declared.known.Known.{Known}
use Rattle.elab_body.specs.elab_scope.declared.known.Known.TheVariants as known
use Rattle.elab_body.specs.elab_scope.declared.widths.Field.{Field}
use Rattle.elab_body.specs.elab_scope.Expressions.{faults, constant_faults}
use Rattle.elab_body.specs.elab_scope.Faults.{Refusal}
use Rattle.elab_body.specs.elab_scope.Names.{Meanings, numbers_in}
use Rattle.elab_body.specs.elab_scope.Own.{field_breadth}
use Rattle.elab_body.specs.elab_scope.Rules.{missing, number_faults, part_faults, range_faults}
use Rattle.elab_body.specs.elab_scope.Sources.{IsDescribed, part_source}
use Rattle.elab_body.specs.elab_scope.Targets.{bit_selection, part_selection}
use Rattle.elab_body.specs.elab_scope.Trees.{field_in, low_of, own_context, signal_of, spot_in, tree_of}
use Rattle.elab_body.proofs.elab_scope_proofs.Fitting.{no_cons}
use Rattle.elab_body.proofs.elab_scope_proofs.Leaves as leaf
use Rattle.elab_body.proofs.elab_scope_proofs.Sound.{nil_left, nil_right, Sound}
use Rattle.elab_body.specs.Events.{watch_faults, edge_faults, event_faults, events_faults, sensitivity_faults, edge_of_event, watched_of, listing_of, is_edge_event, is_clocked_by}
use Rattle.elab_laws.specs.Scopes.{IsScopeOf}
use Rattle.elab_laws.proofs.Targets.{low_there, width_there}
use Rattle.elab_laws.proofs.Values.{own_expression}

-- ---- what is watched

whole : (base : ℕ) (ss : List Signal) (id : Identifier) (k : Option Known) → IsDescribed base ss k → watch_faults id k ≡ [] → signal_of base k < length ss
whole base ss id None d h = absurd (no_cons _ _ h)
whole base ss id (Some (known.Integer n)) d h = absurd (no_cons _ _ h)
whole base ss id (Some (known.Parameter n width signed)) d h = absurd (no_cons _ _ h)
whole base ss id (Some (known.Signal n role None)) d h = absurd d
whole base ss id (Some (known.Signal n role (Some shape))) d h = d.0

is_one : (ss : List Signal) (i : ℕ) → i < length ss → width_in ss i ≡ 1 → Has (λ s. s.width ≡ 1) ss i
is_one [] i h is = absurd (omega arith)
is_one (s ∷ ss) zero h is = is
is_one (s ∷ ss) (suc i) h is = is_one ss i (omega arith) is

one_wide : (at width : ℕ) (x : Refusal) → (if width == 1 then [] else x ∷ []) ≡ [] → width ≡ 1
one_wide at width x h =
    elim (cases_Bool (width == 1)) [
      | inl same ↦ grind (arith, nat_tests)
      | inr other ↦ absurd (no_cons _ _ (rw other at h))
    ]

one_bit : (base : ℕ) (ss : List Signal) (at : ℕ) (id : Identifier) (k : Option Known) → IsDescribed base ss k → watch_faults id k ≡ [] → edge_faults at k ≡ [] → Has (λ s. s.width ≡ 1) ss (signal_of base k)
one_bit base ss at id None d h e = absurd (no_cons _ _ h)
one_bit base ss at id (Some (known.Integer n)) d h e = absurd (no_cons _ _ h)
one_bit base ss at id (Some (known.Parameter n width signed)) d h e = absurd (no_cons _ _ h)
one_bit base ss at id (Some (known.Signal n role None)) d h e = absurd d
one_bit base ss at id (Some (known.Signal n role (Some shape))) d h e =
    is_one ss (base + n) d.0 (d.1 ∙ one_wide at shape.width _ e)

bit_of : (ss : List Signal) (i low : ℕ) (o : Outcome) (index : Tree) → Has (λ s. s.low ≡ low) ss i → IsExpression ss index → IsSelection ss i (bit_selection low o index)
bit_of ss i low (Ok number) index there e = there
bit_of ss i low (Err cause) index there e = (there, e)

bit : (base : ℕ) (ss : List Signal) (id : Identifier) (k : Option Known) (o : Outcome) (index : Tree) → IsDescribed base ss k → watch_faults id k ≡ [] → IsExpression ss index → IsSelection ss (signal_of base k) (bit_selection (low_of k) o index)
bit base ss id None o index d h e = absurd (no_cons _ _ h)
bit base ss id (Some (known.Integer n)) o index d h e = absurd (no_cons _ _ h)
bit base ss id (Some (known.Parameter n width signed)) o index d h e = absurd (no_cons _ _ h)
bit base ss id (Some (known.Signal n role None)) o index d h e = absurd d
bit base ss id (Some (known.Signal n role (Some shape))) o index d h e =
    bit_of ss (base + n) shape.low o index (low_there ss (base + n) shape.low d.0 d.3) e

part_of : (ss : List Signal) (spot : Spot) (at i : ℕ) (f : Option Field) (trees : Context → Tree) → missing at f ≡ [] → Sound ss (field_breadth f) false trees (part_source spot i f) → IsSelection ss i (part_selection f)
part_of ss spot at i None trees h s = absurd (no_cons _ _ h)
part_of ss spot at i (Some f) trees h s =
    (s.some, width_there ss i f.low f.width s.lawful.0 s.lawful.2)

part : (base : ℕ) (ss : List Signal) (spot : Spot) (at : ℕ) (id : Identifier) (k : Option Known) (m l : Outcome) → IsDescribed base ss k → watch_faults id k ≡ [] → number_faults m ≡ [] → number_faults l ≡ [] → part_faults at k m l ≡ [] → IsSelection ss (signal_of base k) (part_selection (field_in k m l))
part base ss spot at id None m l d h p q r = absurd (no_cons _ _ h)
part base ss spot at id (Some (known.Integer n)) m l d h p q r = absurd (no_cons _ _ h)
part base ss spot at id (Some (known.Parameter n width signed)) m l d h p q r = absurd (no_cons _ _ h)
part base ss spot at id (Some (known.Signal n role None)) m l d h p q r = absurd d
part base ss spot at id (Some (known.Signal n role (Some shape))) (Err cause) l d h p q r =
    absurd (no_cons _ _ p)
part base ss spot at id (Some (known.Signal n role (Some shape))) (Ok m) (Err cause) d h p q r =
    absurd (no_cons _ _ q)
part base ss spot at id (Some (known.Signal n role (Some shape))) (Ok m) (Ok l) d h p q r =
    let s = leaf.part base ss spot at id (Some (known.Signal n role (Some shape))) (Ok m) (Ok l) d refl refl refl r in
    part_of ss spot at (base + n) (field_in (Some (known.Signal n role (Some shape))) (Ok m) (Ok l)) _ r s

plain : (ss : List Signal) (w : Watched) → has_edge w.edge ≡ false → IsSelection ss w.signal w.selection → IsWatched ss w
plain ss w is inside =
    record { inside = inside; whole = λ h. absurd (true≢false (sym h ∙ is)); one_bit = λ h. absurd (true≢false (sym h ∙ is)) }

pub watched_lawful : (file base : ℕ) (scope : Meanings) (ss : List Signal) → IsScopeOf base ss scope → (event : Happening) → event_faults scope event ≡ [] → IsWatched ss (watched_of file base scope event)
watched_lawful file base scope ss d (Edged edge at name) h =
    let first : watch_faults name (scope name.text) ≡ [] = nil_left (watch_faults name (scope name.text)) _ h in
    record {
      inside = whole base ss name (scope name.text) (d.described name.text) first;
      whole = λ is. tt;
      one_bit = λ is. one_bit base ss at name (scope name.text) (d.described name.text) first (nil_right (watch_faults name (scope name.text)) _ h);
    }
watched_lawful file base scope ss d (Change name) h =
    plain ss (watched_of file base scope (Change name)) refl (whole base ss name (scope name.text) (d.described name.text) h)
watched_lawful file base scope ss d (ChangeBit name index) h =
    let first = watch_faults name (scope name.text) in
    let second = range_faults name (scope name.text) in
    plain ss (watched_of file base scope (ChangeBit name index)) refl (bit base ss name (scope name.text) (constant (numbers_in scope) index) (tree_of file base scope index (own_context scope index)) (d.described name.text) (nil_left first second (nil_left (first ++ second) _ h)) (own_expression file base scope ss d index (nil_right (first ++ second) _ h)))
watched_lawful file base scope ss d (ChangePart name msb lsb) h =
    let first = watch_faults name (scope name.text) in
    let second = range_faults name (scope name.text) in
    let third = constant_faults scope msb in
    let fourth = constant_faults scope lsb in
    let last = part_faults name.at (scope name.text) (constant (numbers_in scope) msb) (constant (numbers_in scope) lsb) in
    let four : first ++ second ++ third ++ fourth ≡ [] = nil_left (first ++ second ++ third ++ fourth) last h in
    let three : first ++ second ++ third ≡ [] = nil_left (first ++ second ++ third) fourth four in
    plain ss (watched_of file base scope (ChangePart name msb lsb)) refl (part base ss (spot_in file name.at) name.at name (scope name.text) (constant (numbers_in scope) msb) (constant (numbers_in scope) lsb) (d.described name.text) (nil_left first second (nil_left (first ++ second) third three)) (nil_right (faults scope msb) _ (nil_right (first ++ second) third three)) (nil_right (faults scope lsb) _ (nil_right (first ++ second ++ third) fourth four)) (nil_right (first ++ second ++ third ++ fourth) last h))

-- ---- lists

pub events_lawful : (file base : ℕ) (scope : Meanings) (ss : List Signal) → IsScopeOf base ss scope → (events : List Happening) → events_faults scope events ≡ [] → All (IsWatched ss) (map (watched_of file base scope) events)
events_lawful file base scope ss d [] h = All-nil (IsWatched ss)
events_lawful file base scope ss d (event ∷ events) h =
    All-cons (IsWatched ss) (watched_of file base scope event) (map (watched_of file base scope) events) (watched_lawful file base scope ss d event (nil_left (event_faults scope event) _ h)) (events_lawful file base scope ss d events (nil_right (event_faults scope event) _ h))

has_edge_of : (edge : EventEdge) → has_edge (edge_of_event edge) ≡ true
has_edge_of Posedge = refl
has_edge_of Negedge = refl

edge_is : (file base : ℕ) (scope : Meanings) (event : Happening) → has_edge (watched_of file base scope event).edge ≡ is_edge_event event
edge_is file base scope (Edged edge at name) = has_edge_of edge
edge_is file base scope (Change name) = refl
edge_is file base scope (ChangeBit name index) = refl
edge_is file base scope (ChangePart name msb lsb) = refl

abbrev HasEdge : Watched → Bool
HasEdge item = has_edge item.edge

pub edges_are : (file base : ℕ) (scope : Meanings) (events : List Happening) → list_any (λ item. has_edge item.edge) (map (watched_of file base scope) events) ≡ list_any is_edge_event events
edges_are file base scope [] = refl
edges_are file base scope (event ∷ events) =
    let first : has_edge (watched_of file base scope event).edge ≡ is_edge_event event = edge_is file base scope event in
    let others : list_any (λ item. has_edge item.edge) (map (watched_of file base scope) events) ≡ list_any is_edge_event events = edges_are file base scope events in
    ap (λ b. b || list_any (λ item. has_edge item.edge) (map (watched_of file base scope) events)) first ∙ ap (λ b. is_edge_event event || b) others

abbrev IsPlain : Watched → Type 0
IsPlain item = has_edge item.edge ≡ false

neither : (a b : Bool) → (a || b) ≡ false → (a ≡ false) × (b ≡ false)
neither true b h = absurd (true≢false h)
neither false b h = (refl, h)

pub all_plain : (items : List Watched) → list_any (λ item. has_edge item.edge) items ≡ false → All IsPlain items
all_plain [] h = All-nil IsPlain
all_plain (item ∷ items) h =
    let both = neither (has_edge item.edge) (list_any (λ item. has_edge item.edge) items) h in
    All-cons IsPlain item items both.0 (all_plain items both.1)

-- a list without edges
pub list_lawful : (file base : ℕ) (scope : Meanings) (ss : List Signal) → IsScopeOf base ss scope → (s : Sensitivity) → sensitivity_faults scope s ≡ [] → is_clocked_by s ≡ false → IsList ss (listing_of file base scope s)
list_lawful file base scope ss d Star h is = tt
list_lawful file base scope ss d StarInParens h is = tt
list_lawful file base scope ss d (Listed events) h is =
    (events_lawful file base scope ss d events h, all_plain (map (watched_of file base scope) events) (edges_are file base scope events ∙ is))
