-- Expressions that read a signal which is marked.
use Rattle.std.proofs.Common.{ℕ, zero, suc, ◌≡◌, ◌∙◌, ◌+◌, ◌<◌, ◌≤◌, Bool, true, false, not, cond, ◌&&◌, ◌||◌, List, [], ◌∷◌, ◌++◌, map, length, take, drop, get_or, Option, None, Some, refl, sym, ap, subst, inl, inr, arith, append-nil, append_assoc, ◌↔◌}
use Rattle.std.specs.Prelude.{nat_lt}
use Rattle.std.specs.List.{filter, flat_map, list_any, slice_get}
use Rattle.std.proofs.lemmas.Bool.{and_parts, and_from, false≢true, lt-ltb, or_cases, or_left, or_right}
use Rattle.std.proofs.lemmas.List.{drop_all, map-append, take_more}
use Rattle.std.proofs.lemmas.List.Elements.{filter-append}
use Rattle.std.proofs.lemmas.Grind.{flat_map-append}
use Rattle.text_ground.specs.declared.text.Spot.{Spot}
use Rattle.rtl_flat.specs.declared.expr.SigId.{SigId}
use Rattle.rtl_flat.specs.declared.expr.SizedExpr.{SizedExpr}
use Rattle.rtl_flat.specs.Expression.{Tree, tree}
use Rattle.rtl_flat.specs.Flows.{reads}
use Rattle.rtl_flat.specs.declared.act.CaseKind.{CaseKind}
use Rattle.rtl_flat.specs.declared.act.CaseKind.TheVariants as case
use Rattle.rtl_flat.specs.Process.{Selection, Piece, Action, Set, If, Case, Block, Actions, Otherwise, Branches, Doing, Task, selection}
use Rattle.rtl_flat.specs.Process as part
use Rattle.rtl_rule.specs.declared.finding.Finding.{Finding}
use Rattle.rtl_rule.specs.Parts.{first_of, has_some, nodes, own_labels, own_trees, statements, written, own_reads}
use Rattle.rtl_flat.specs.Flats.{Flat, widths}
use Rattle.check_unknown.specs.declared.choices.Sought.{Sought}
use Rattle.check_unknown.specs.declared.choices.Sought.TheVariants.{Plain, Wild}
use Rattle.check_unknown.specs.Doubts.{AreSought, any_meets, choice_spots, choices_found, choices_of, is_plain, meets, rule_of, seeks}
use Rattle.check_unknown.specs.Lists.{at_spot, below}
use Rattle.check_unknown.specs.Unknowns.{Choice, IsDoubtful, IsDoubtfulChoice, at_choice, choice, choices_in, index_choice, wild_choices_in}
use Rattle.check_unknown.proofs.Lists.{found_of, spots_picked}
use Rattle.rtl_rule.proofs.Below.{same_by, some_at}
use Rattle.check_chains.specs.check_parts.Reads.{is_signal}
use Rattle.check_chains.proofs.check_parts_proofs.OwnReads.{any_both, is_met, meet, met, own_met, tree_reads}

pub marked_in : (marks : List Bool) (s : ℕ) → get_or marks s false ≡ true → s < length marks
marked_in [] s h = absurd (false≢true h)
marked_in (m ∷ marks) zero h = omega arith
marked_in (m ∷ marks) (suc s) h = let below = marked_in marks s h in omega (arith, below)

abbrev pub marked_at : List Bool → ℕ → Bool
marked_at marks s = get_or marks s false

-- ---- expressions that meet the marks

module _ (ws : ℕ → ℕ) (marks : List Bool) where
  abbrev pub is_one_marked : Option SigId → Bool
  is_one_marked None = false
  is_one_marked (Some signal) = marked_at marks signal.0

  -- the signal of which an expression reads a bit itself
  pub read_meets : (e : Tree) (found : Option SigId) → ((s : ℕ) → has_some ws (own_reads ws e) s ≡ is_signal found s) → (is : Bool) → is ≡ is_one_marked found → is ≡ meets ws marks (own_reads ws e)
  read_meets e found are is same = same ∙ sym (own_met ws (length marks) (marked_at marks) e found are ∙ inside found)
    where
      inside : (o : Option SigId) → is_met ws (length marks) (marked_at marks) o ≡ is_one_marked o
      inside None = refl
      inside (Some signal) =
          same_by (nat_lt signal.0 (length marks) && marked_at marks signal.0) (marked_at marks signal.0)
          (λ h. (and_parts (nat_lt signal.0 (length marks)) (marked_at marks signal.0) h).1)
          (λ h. and_from (nat_lt signal.0 (length marks)) (marked_at marks signal.0) (lt-ltb signal.0 (length marks) (marked_in marks signal.0 h)) h)

  pub any_reads : {A : Type 0} (view : A → SizedExpr) (es : List A) → any_meets ws marks (map (λ e. tree (view e)) es) ≡ list_any (λ one. meets ws marks (own_reads ws one)) (flat_map nodes (map (λ e. tree (view e)) es))
  any_reads view [] = refl
  any_reads view (e ∷ es) =
      ap (λ t. t || any_meets ws marks (map (λ f. tree (view f)) es)) (tree_reads ws (length marks) (marked_at marks) (view e))
      ∙ ap (λ t. list_any (λ one. meets ws marks (own_reads ws one)) (nodes (tree (view e))) || t) (any_reads view es)
      ∙ sym (any_both ws (length marks) (marked_at marks) (nodes (tree (view e))) (flat_map nodes (map (λ f. tree (view f)) es)))

  -- ---- places of choices

  pub choice_some : (spot : Spot) (es : List Tree) (fs : List Spot) → any_meets ws marks es ≡ true → fs ++ spot ∷ [] ≡ fs ++ choice_spots ws marks (choice spot es)
  choice_some spot es fs h =
      sym (ap (λ t. fs ++ map (λ (one : Choice). one.spot) (cond t (choice spot es) [])) h)

  pub choice_none : (spot : Spot) (es : List Tree) (fs : List Spot) → any_meets ws marks es ≡ false → fs ≡ fs ++ choice_spots ws marks (choice spot es)
  choice_none spot es fs h =
      sym (ap (λ t. fs ++ map (λ (one : Choice). one.spot) (cond t (choice spot es) [])) h ∙ append-nil fs)

  spots_both : (a b : List Choice) → choice_spots ws marks (a ++ b) ≡ choice_spots ws marks a ++ choice_spots ws marks b
  spots_both a b =
      ap (map (λ (one : Choice). one.spot)) (filter-append (λ (one : Choice). any_meets ws marks one.trees) a b)
      ∙ map-append (λ (one : Choice). one.spot) (filter (λ (one : Choice). any_meets ws marks one.trees) a) (filter (λ (one : Choice). any_meets ws marks one.trees) b)

  module _ {A B : Type 0} (g : B → List Choice) (view : A → B) (xs : List A) where
    pub choices_more : (i : ℕ) (x : A) → i < length xs → x ≡ get_or xs i x → (first old new : List Spot) → old ≡ first ++ choice_spots ws marks (flat_map g (map view (take i xs))) → new ≡ old ++ choice_spots ws marks (g (view x)) → new ≡ first ++ choice_spots ws marks (flat_map g (map view (take (i + 1) xs)))
    choices_more i x inside is first old new before more =
        let shown = λ (ys : List A). flat_map g (map view ys) in
        let last : flat_map g (view x ∷ []) ≡ g (view x) = append-nil (g (view x)) in
        let whole : shown (take (i + 1) xs) ≡ shown (take i xs) ++ g (view x)
        = ap shown (take_more xs i x inside ∙ ap (λ y. take i xs ++ y ∷ []) (sym is)) ∙ ap (flat_map g) (map-append view (take i xs) (x ∷ [])) ∙ flat_map-append g (map view (take i xs)) (view x ∷ []) ∙ ap (λ zs. shown (take i xs) ++ zs) last in
        more ∙ ap (λ fs. fs ++ choice_spots ws marks (g (view x))) before
        ∙ append_assoc first (choice_spots ws marks (shown (take i xs))) (choice_spots ws marks (g (view x)))
        ∙ ap (λ fs. first ++ fs) (sym (spots_both (shown (take i xs)) (g (view x))) ∙ sym (ap (choice_spots ws marks) whole))

  -- ---- what the marks mean

  pub any_from : (es : List Tree) → any_meets ws marks es ≡ true → (s : ℕ) × (get_or marks s false ≡ true) × (list_any (λ e. has_some ws (reads ws e) s) es ≡ true)
  any_from [] h = absurd (false≢true h)
  any_from (e ∷ es) h =
      elim (or_cases (meets ws marks (reads ws e)) (any_meets ws marks es) h) [
        | inl here ↦
            let m = met ws (length marks) (marked_at marks) (reads ws e) here in
            (m.signal, m.marked, or_left (has_some ws (reads ws e) m.signal) (list_any (λ f. has_some ws (reads ws f) m.signal) es) (some_at (ws m.signal) (reads ws e m.signal) m.bit m.inside m.has))
        | inr later ↦
            let (s, marked, is) = any_from es later in
            (s, marked, or_right (has_some ws (reads ws e) s) (list_any (λ f. has_some ws (reads ws f) s) es) is)
      ]

  pub any_to : (es : List Tree) (s : ℕ) → s < length marks → get_or marks s false ≡ true → list_any (λ e. has_some ws (reads ws e) s) es ≡ true → any_meets ws marks es ≡ true
  any_to [] s there marked h = absurd (false≢true h)
  any_to (e ∷ es) s there marked h =
      elim (or_cases (has_some ws (reads ws e) s) (list_any (λ f. has_some ws (reads ws f) s) es) h) [
        | inl here ↦ or_left (meets ws marks (reads ws e)) (any_meets ws marks es) (some_at (length marks) (λ i. get_or marks i false && has_some ws (reads ws e) i) s there (and_from (get_or marks s false) (has_some ws (reads ws e) s) marked here))
        | inr later ↦ or_right (meets ws marks (reads ws e)) (any_meets ws marks es) (any_to es s there marked later)
      ]

pub got : (marks : List Bool) (s : ℕ) → get_or marks s false ≡ true → slice_get marks s ≡ Some true
got [] s h = absurd (false≢true h)
got (m ∷ marks) zero h = ap Some h
got (m ∷ marks) (suc s) h = got marks s h

pub got_back : (marks : List Bool) (s : ℕ) → slice_get marks s ≡ Some true → get_or marks s false ≡ true
got_back [] s h = absurd (cc)
got_back (m ∷ marks) zero h = let e : m ≡ true = cc in e
got_back (m ∷ marks) (suc s) h = got_back marks s h

-- ---- the choices of a statement

pub set_choices : (sought : Sought) (a : Action) (target : List Piece) (value : Tree) (delayed : Bool) (spot : Spot) → a ≡ Set target value delayed spot → is_plain sought ≡ true → choices_of sought a ≡ flat_map index_choice target
set_choices Plain a target value delayed spot is h = ap choices_in is
set_choices Wild a target value delayed spot is h = absurd (false≢true h)

pub no_set_choices : (sought : Sought) (a : Action) (target : List Piece) (value : Tree) (delayed : Bool) (spot : Spot) → a ≡ Set target value delayed spot → is_plain sought ≡ false → choices_of sought a ≡ []
no_set_choices Plain a target value delayed spot is h = absurd (false≢true (sym h))
no_set_choices Wild a target value delayed spot is h = ap wild_choices_in is

abbrev of_own : Spot → Action → List Choice
of_own spot a = choice spot (own_trees a ++ own_labels a)

pub if_choices : (sought : Sought) (a : Action) (test : Tree) (taken : Actions) (other : Otherwise) (spot : Spot) → a ≡ If test taken other spot → is_plain sought ≡ true → choices_of sought a ≡ choice spot (own_trees a ++ own_labels a)
if_choices Plain a test taken other spot is h = ap choices_in is ∙ sym (ap (of_own spot) is)
if_choices Wild a test taken other spot is h = absurd (false≢true h)

pub no_if_choices : (sought : Sought) (a : Action) (test : Tree) (taken : Actions) (other : Otherwise) (spot : Spot) → a ≡ If test taken other spot → is_plain sought ≡ false → choices_of sought a ≡ []
no_if_choices Plain a test taken other spot is h = absurd (false≢true (sym h))
no_if_choices Wild a test taken other spot is h = ap wild_choices_in is

pub case_choices : (sought : Sought) (a : Action) (kind : CaseKind) (full parallel : Bool) (selector : Tree) (branches : Branches) (fallback : Otherwise) (spot : Spot) → a ≡ Case kind full parallel selector branches fallback spot → seeks sought kind ≡ true → choices_of sought a ≡ choice spot (own_trees a ++ own_labels a)
case_choices Plain a case.Plain full parallel selector branches fallback spot is h = ap choices_in is ∙ sym (ap (of_own spot) is)
case_choices Plain a case.Z full parallel selector branches fallback spot is h = absurd (false≢true h)
case_choices Plain a case.X full parallel selector branches fallback spot is h = absurd (false≢true h)
case_choices Wild a case.Plain full parallel selector branches fallback spot is h = absurd (false≢true h)
case_choices Wild a case.Z full parallel selector branches fallback spot is h = ap wild_choices_in is ∙ sym (ap (of_own spot) is)
case_choices Wild a case.X full parallel selector branches fallback spot is h = ap wild_choices_in is ∙ sym (ap (of_own spot) is)

pub no_case_choices : (sought : Sought) (a : Action) (kind : CaseKind) (full parallel : Bool) (selector : Tree) (branches : Branches) (fallback : Otherwise) (spot : Spot) → a ≡ Case kind full parallel selector branches fallback spot → seeks sought kind ≡ false → choices_of sought a ≡ []
no_case_choices Plain a case.Plain full parallel selector branches fallback spot is h = absurd (false≢true (sym h))
no_case_choices Plain a case.Z full parallel selector branches fallback spot is h = ap choices_in is
no_case_choices Plain a case.X full parallel selector branches fallback spot is h = ap choices_in is
no_case_choices Wild a case.Plain full parallel selector branches fallback spot is h = ap wild_choices_in is
no_case_choices Wild a case.Z full parallel selector branches fallback spot is h = absurd (false≢true (sym h))
no_case_choices Wild a case.X full parallel selector branches fallback spot is h = absurd (false≢true (sym h))

pub no_block_choices : (sought : Sought) (a : Action) (body : Actions) → a ≡ Block body → choices_of sought a ≡ []
no_block_choices Plain a body is = ap choices_in is
no_block_choices Wild a body is = ap wild_choices_in is

-- ---- all processes

pub choices_all : (sought : Sought) (d : Flat) (marks : List Bool) → ((s : ℕ) → slice_get marks s ≡ Some true ↔ IsDoubtful d s) → (n : ℕ) → n ≡ length d.tasks → (found : List Finding) → found ≡ below (λ p one. choices_found (rule_of sought) (choices_of sought) d marks one) 0 d.tasks n → AreSought sought d found
choices_all sought d marks each n all found is =
    let ws = widths d in
    let list = λ (does : Doing). flat_map (choices_of sought) (statements does) in
    found_of (IsDoubtfulChoice d) (λ site. any_meets ws marks site.it.trees)
    (λ site. (
      λ h. let (s, marked, reads') = any_from ws marks site.it.trees h in record { signal = s; doubtful = (each s).0 (got marks s marked); reads = reads' },
      λ h. let there = (each h.signal).1 h.doubtful in let marked = got_back marks h.signal there in any_to ws marks site.it.trees h.signal (marked_in marks h.signal marked) marked h.reads,
    ))
    (at_choice (rule_of sought) d) list d (λ p one. choices_found (rule_of sought) (choices_of sought) d marks one)
    (λ p one. spots_picked (λ (one' : Choice). any_meets ws marks one'.trees) (λ (one' : Choice). one'.spot) (at_spot (rule_of sought) (first_of d (written d one.does)) one.instance) (at_choice (rule_of sought) d) (p, one) (λ x. refl) (list one.does))
    n all found is
