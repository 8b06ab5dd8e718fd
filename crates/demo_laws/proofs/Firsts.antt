-- Trials show one first difference for a finding.
use Rattle.std.specs.Prelude.{IsTrue}
use Rattle.std.proofs.Common.{◌≡◌, ◌∙◌, ◌⊎◌, ◌<◌, ℕ, zero, suc, Bool, true, false, not, ◌&&◌, if◌then◌else◌, List, [], ◌∷◌, length, Option, None, Some, refl, sym, ap, subst, inl, inr, arith}
use Rattle.std.proofs.Math.Path.{fun_ext}
use Rattle.std.proofs.lemmas.Bool.{and_parts, cases_order}
use Rattle.std.proofs.lemmas.Option.{none-some, same_Some}
use Rattle.rtl_bits.specs.declared.Bit.{Bit}
use Rattle.rtl_flat.specs.declared.expr.SigId.{SigId}
use Rattle.event_model.specs.Queue.{is_input}
use Rattle.rtl_flat.specs.Flats.{Flat}
use Rattle.net_model.specs.Solution.{IsLasting}
use Rattle.demo_clean.specs.net_start.Stored.{IsStored}
use Rattle.demo_clean.proofs.net_start_proofs.Listed.{all_same}
use Rattle.rtl_rule.specs.declared.finding.Finding.{Finding}
use Rattle.rtl_rule.specs.Parts.{first_below, number, some_below}
use Rattle.demo_told.specs.Same.{are_same}
use Rattle.demo_clean.specs.demo_replay.Compared.{AreCompared, is_trial_of}
use Rattle.demo_clean.specs.demo_replay.Firsts.{Here, IsFirst, Never, NoNetlist, Nothing, Place, Shows, Told, differs, first_place, first_signal, place_or}
use Rattle.demo_clean.specs.demo_replay.Runs.{Ended, IsCourse, IsStuck, Moment, Stopped}
use Rattle.demo_clean.specs.demo_replay.Setups.{Contended, Cyclic, HasNetlist, IsSetup, LacksNetlist, Setup, Shapeless}
use Rattle.demo_laws.proofs.Trials.{AllAlike, IsAlike, not_behind, reach_once, stuck_reaches}
use Rattle.demo_laws.specs.Laws.{AreProcesses}

bool_same : (a b : Bool) → (a ≡ true → b ≡ true) → (b ≡ true → a ≡ true) → a ≡ b
bool_same true b to back = sym (to refl)
bool_same false true to back = back refl
bool_same false false to back = refl

pub setup_once : (d : Flat) (one other : Setup) → IsSetup d one → IsSetup d other → one ≡ other
setup_once d one other is is' =
    ap (λ (xs : List ℕ). record one { stored = xs }) (all_same (IsStored d) one.stored other.stored is.are_stored is'.are_stored)
    ∙ ap (λ (xs : List ℕ). record one { stored = other.stored; tops = xs }) (all_same (λ s. IsTrue (is_input d s)) one.tops other.tops is.are_tops is'.are_tops)
    ∙ ap (λ (test : ℕ → Bool). record other { is_control = test }) (fun_ext (λ i. bool_same (one.is_control i) (other.is_control i) (λ h. (is'.are_controls i).1 ((is.are_controls i).0 h)) (λ h. (is.are_controls i).1 ((is'.are_controls i).0 h))))

pub lacks_none : (d : Flat) → LacksNetlist d → HasNetlist d → ⊥
lacks_none d (Shapeless p fault) has = has.formed p fault
lacks_none d (Contended p fault) has = has.alone p fault
lacks_none d (Cyclic s fault) has = has.no_cycle s fault

-- ---- the first place

first_is : (count : ℕ) (test : ℕ → Bool) (s : SigId) → first_below count test ≡ Some s → test s.0 ≡ true
first_is zero test s found = absurd (none-some s found)
first_is (suc n) test s found = by (some_below n test) (first_is n test s) found
  where
    alone : (c : Bool) → test n ≡ c → (if c then number n else None) ≡ Some s → test s.0 ≡ true
    alone true is found' = subst (λ (x : SigId). test x.0 ≡ true) (same_Some (record { 0 = n }) s found') is
    alone false isnt found' = absurd (none-some s found')

    by : (b : Bool) → (first_below n test ≡ Some s → test s.0 ≡ true) → (if b then first_below n test else if test n then number n else None) ≡ Some s → test s.0 ≡ true
    by true before found' = before found'
    by false before found' = alone (test n) refl found'

module _ (d : Flat) (compared : ℕ → Bool) (lasting : (s : ℕ) → compared s ≡ true → IsLasting d s) where
  differs_same : (x y : Moment) → IsAlike d x y → (s : ℕ) → (compared s && differs x s) ≡ (compared s && differs y s)
  differs_same x y alike s = by (compared s) refl
    where
      by : (c : Bool) → compared s ≡ c → (c && differs x s) ≡ (c && differs y s)
      by true is =
          ap (λ (v : ℕ → List Bit). not (are_same (v s) (x.synthesised s))) alike.simulated
          ∙ ap (λ (bits : List Bit). not (are_same (y.simulated s) bits)) (alike.synthesised s (lasting s is))
      by false isnt = refl

  place_same :
      (step : ℕ) (x y : Moment) → IsAlike d x y → (o : Option SigId) → ((s : SigId) → o ≡ Some s → compared s.0 ≡ true) → (rest rest' : Option Place) → rest ≡ rest' →
      place_or step x o rest ≡ place_or step y o rest'
  place_same step x y alike None is rest rest' same = same
  place_same step x y alike (Some s) is rest rest' same =
      ap (λ (v : ℕ → List Bit). Some (record { step = step; signal = s.0; simulated = v s.0; synthesised = x.synthesised s.0 })) alike.simulated
      ∙ ap (λ (bits : List Bit). Some (record { step = step; signal = s.0; simulated = y.simulated s.0; synthesised = bits })) (alike.synthesised s.0 (lasting s.0 (is s refl)))

  first_same : (count step : ℕ) (xs ys : List Moment) → AllAlike d xs ys → first_place count compared step xs ≡ first_place count compared step ys
  first_same count step [] [] all = refl
  first_same count step [] (y ∷ ys) all = absurd all
  first_same count step (x ∷ xs) [] all = absurd all
  first_same count step (x ∷ xs) (y ∷ ys) all =
      ap (λ (test : ℕ → Bool). place_or step x (first_below count test) (first_place count compared (suc step) xs)) (fun_ext (differs_same x y all.0))
      ∙ place_same step x y all.0 (first_signal count compared y)
      (λ s found. (and_parts (compared s.0) (differs y s.0) (first_is count (λ i. compared i && differs y i) s found)).0)
      (first_place count compared (suc step) xs) (first_place count compared (suc step) ys) (first_same count (suc step) xs ys all.1)

-- ---- trials

module _ (design : Flat) (lawful : AreProcesses design) (setup : Setup) (is_setup : IsSetup design setup) (trial : ℕ) where
  pub stuck_once :
      (xs ys : List Moment) → IsStuck design setup trial xs → IsStuck design setup trial ys → length xs ≡ length ys
  stuck_once xs ys one other =
      by (cases_order (length xs) (length ys))
    where
      by : (length xs ≡ length ys) ⊎ ((length xs < length ys) ⊎ (length ys < length xs)) → length xs ≡ length ys
      by (inl same) = same
      by (inr (inl less)) =
          absurd (not_behind design lawful setup is_setup one.netlist trial ys xs other.state other.numbers (stuck_reaches design lawful setup is_setup one.netlist trial ys other) one less)
      by (inr (inr more)) =
          absurd (not_behind design lawful setup is_setup one.netlist trial xs ys one.state one.numbers (stuck_reaches design lawful setup is_setup one.netlist trial xs one) other more)

  course_once : (xs ys : List Moment) → IsCourse design setup trial xs → IsCourse design setup trial ys → AllAlike design xs ys
  course_once xs ys (Ended s n reaches all) (Ended t m reaches' all') =
      (reach_once design lawful setup is_setup reaches.netlist trial xs ys s t n m reaches reaches' (all ∙ sym all')).shown
  course_once xs ys (Ended s n reaches all) (Stopped stuck) =
      let more = stuck.more in
      absurd (not_behind design lawful setup is_setup reaches.netlist trial xs ys s n reaches stuck (omega (arith, all, more)))
  course_once xs ys (Stopped stuck) (Ended s n reaches all) =
      let more = stuck.more in
      absurd (not_behind design lawful setup is_setup reaches.netlist trial ys xs s n reaches stuck (omega (arith, all, more)))
  course_once xs ys (Stopped one) (Stopped other) =
      (reach_once design lawful setup is_setup one.netlist trial xs ys one.state other.state one.numbers other.numbers
      (stuck_reaches design lawful setup is_setup one.netlist trial xs one) (stuck_reaches design lawful setup is_setup one.netlist trial ys other) (stuck_once xs ys one other)).shown

  pub shows_once :
      (compared : ℕ → Bool) → ((s : ℕ) → compared s ≡ true → IsLasting design s) → (found found' : Option Place) →
      Shows design setup compared trial found → Shows design setup compared trial found' → found ≡ found'
  shows_once compared lasting found found' one other =
      sym one.first
      ∙ first_same design compared lasting (length design.signals) 1 one.moments other.moments (course_once one.moments other.moments one.course other.course)
      ∙ other.first

course_netlist : (d : Flat) (setup : Setup) (trial : ℕ) (xs : List Moment) → IsCourse d setup trial xs → HasNetlist d
course_netlist d setup trial xs (Ended s n reaches all) = reaches.netlist
course_netlist d setup trial xs (Stopped stuck) = stuck.netlist

-- ---- all trials

module _ (design : Flat) (lawful : AreProcesses design) (finding : Finding) where
  abbrev d : Flat
  d = design

  lasts : (compared : ℕ → Bool) → AreCompared d finding compared → (s : ℕ) → compared s ≡ true → IsLasting design s
  lasts compared are s is = ((are s).0 is).lasting

  -- what another setup and another test show
  moved :
      (setup setup' : Setup) (compared compared' : ℕ → Bool) → IsSetup d setup → IsSetup d setup' → AreCompared d finding compared → AreCompared d finding compared' →
      (trial : ℕ) (found : Option Place) → Shows d setup' compared' trial found → Shows d setup compared trial found
  moved setup setup' compared compared' is is' are are' trial found shows =
      subst (λ (u : Setup). Shows d u compared trial found) (setup_once d setup' setup is' is)
      (subst (λ (test : ℕ → Bool). Shows d setup' test trial found) (fun_ext (λ i. bool_same (compared' i) (compared i) (λ h. (are i).1 ((are' i).0 h)) (λ h. (are' i).1 ((are i).0 h)))) shows)

  here_once :
      (setup : Setup) (compared : ℕ → Bool) (trial trial' : ℕ) (place place' : Place) → IsSetup d setup → AreCompared d finding compared →
      is_trial_of finding.rule trial ≡ true → Shows d setup compared trial (Some place) → ((lower : ℕ) → lower < trial → is_trial_of finding.rule lower ≡ true → Shows d setup compared lower None) →
      is_trial_of finding.rule trial' ≡ true → Shows d setup compared trial' (Some place') → ((lower : ℕ) → lower < trial' → is_trial_of finding.rule lower ≡ true → Shows d setup compared lower None) →
      ◌≡◌ {A = Option Told} (Some (record { trial = trial; place = place })) (Some (record { trial = trial'; place = place' }))
  here_once setup compared trial trial' place place' is are of shows none of' shows' none' =
      by (cases_order trial trial')
    where
      by : (trial ≡ trial') ⊎ ((trial < trial') ⊎ (trial' < trial)) → ◌≡◌ {A = Option Told} (Some (record { trial = trial; place = place })) (Some (record { trial = trial'; place = place' }))
      by (inl same) =
          let here = subst (λ t. Shows design setup compared t (Some place)) same shows in
          let same_place : place ≡ place' = same_Some place place' (shows_once design lawful setup is trial' compared (λ s h. ((are s).0 h).lasting) (Some place) (Some place') here shows') in
          ap (λ t. Some (record { trial = t; place = place })) same ∙ ap (λ p. Some (record { trial = trial'; place = p })) same_place
      by (inr (inl less)) =
          absurd (none-some place (shows_once design lawful setup is trial compared (λ s h. ((are s).0 h).lasting) None (Some place) (none' trial less of) shows))
      by (inr (inr more)) =
          absurd (none-some place' (shows_once design lawful setup is trial' compared (λ s h. ((are s).0 h).lasting) None (Some place') (none trial' more of') shows'))

  pub one_first : (one other : Option Told) → IsFirst d finding one → IsFirst d finding other → one ≡ other
  one_first None None first second = refl
  one_first None (Some told) (NoNetlist lacks) (Here setup compared trial place is are of shows none) =
      absurd (lacks_none d lacks (course_netlist d setup trial shows.moments shows.course))
  one_first (Some told) None (Here setup compared trial place is are of shows none) (NoNetlist lacks) =
      absurd (lacks_none d lacks (course_netlist d setup trial shows.moments shows.course))
  one_first None (Some told) (Nothing setup' compared' is' are' nowhere) (Here setup compared trial place is are of shows none) =
      absurd (none-some place (shows_once design lawful setup is trial compared (lasts compared are) None (Some place) (moved setup setup' compared compared' is is' are are' trial None (nowhere trial of)) shows))
  one_first (Some told) None (Here setup compared trial place is are of shows none) (Nothing setup' compared' is' are' nowhere) =
      absurd (none-some place (shows_once design lawful setup is trial compared (lasts compared are) None (Some place) (moved setup setup' compared compared' is is' are are' trial None (nowhere trial of)) shows))
  one_first None (Some told) (Never never) (Here setup compared trial place is are of shows none) =
      absurd (never setup compared trial place is are of shows)
  one_first (Some told) None (Here setup compared trial place is are of shows none) (Never never) =
      absurd (never setup compared trial place is are of shows)
  one_first (Some told) (Some told') (Here setup compared trial place is are of shows none) (Here setup' compared' trial' place' is' are' of' shows' none') =
      here_once setup compared trial trial' place place' is are of shows none of'
      (moved setup setup' compared compared' is is' are are' trial' (Some place') shows')
      (λ lower less rule. moved setup setup' compared compared' is is' are are' lower None (none' lower less rule))
