-- A dump has one verdict, or one reason why it has none.
use Rattle.std.proofs.Common.{◌≡◌, ◌∙◌, ◌⊎◌, ◌<◌, ◌+◌, ℕ, List, [], ◌∷◌, ◌++◌, length, refl, sym, ap, subst, inl, inr}
use Rattle.std.proofs.lemmas.Bool.{cases_order, false≢true}
use Rattle.rtl_bits.specs.declared.Bit.{Bit}
use Rattle.rtl_flat.specs.Flats.{Flat}
use Rattle.rtl_flat.specs.declared.expr.SigId.{SigId}
use Rattle.demo_clean.specs.net_start.Stored.{IsStored}
use Rattle.vcd_check.specs.vcd_signals.vcd_read.Reading.{Dump}
use Rattle.vcd_check.specs.vcd_signals.Signals.{Sight, sights}
use Rattle.vcd_check.specs.declared.verdict.CompareFault.{CompareFault}
use Rattle.vcd_check.specs.declared.verdict.CompareFault.TheVariants.{MissingInput, MissingRegister, NoNetlist, NeverKnown, Unlawful, Memory}
use Rattle.vcd_check.specs.declared.verdict.Verdict.{Verdict}
use Rattle.vcd_check.specs.declared.verdict.Verdict.TheVariants.{Agrees, Departs}
use Rattle.vcd_check.specs.Departure.{Agrees as AgreesAt, IsDeparture, IsWatched, Watched, from_start}
use Rattle.vcd_check.specs.Verdicts.{AreRecorded, Contended, Cyclic, HasNetlist, IsAgreed, IsCompareFault, IsDeparted, IsInput, IsMissing, IsReady, IsTold, IsUnlawful, IsVerdict, LacksNetlist, Shapeless}
use Rattle.demo_laws.specs.Laws.{AreProcesses}
use Rattle.vcd_laws.proofs.Reached.{departure_once, no_departure, watched_once}
use Rattle.vcd_laws.proofs.Stops.{agreed_stop, departed_stop, one_stop, unlawful_stop}

-- ---- what has to be there

lacks_none : (d : Flat) → LacksNetlist d → HasNetlist d → ⊥
lacks_none d (Shapeless p fault) has = has.formed p fault
lacks_none d (Contended p fault) has = has.alone p fault
lacks_none d (Cyclic s fault) has = has.no_cycle s fault

missing_once : (P : ℕ → Type 0) (d : Flat) (scope : List ℕ) (text : Dump) (i j : ℕ) → IsMissing P d scope text i → IsMissing P d scope text j → i ≡ j
missing_once P d scope text i j one other =
    by (cases_order i j)
  where
    by : (i ≡ j) ⊎ ((i < j) ⊎ (j < i)) → i ≡ j
    by (inl e) = e
    by (inr (inl less)) = absurd (false≢true (sym one.missing ∙ other.first i less one.is))
    by (inr (inr more)) = absurd (false≢true (sym other.missing ∙ one.first j more other.is))

not_missing : (P : ℕ → Type 0) (d : Flat) (scope : List ℕ) (text : Dump) (i : ℕ) → IsMissing P d scope text i → AreRecorded P d scope text → ⊥
not_missing P d scope text i missing all = false≢true (sym missing.missing ∙ all i missing.is)

-- ---- what is told of the times

module _ (design : Flat) (lawful : AreProcesses design) (netlist : HasNetlist design) (watched : Watched) (is_watched : IsWatched design watched) (times : List Sight) where
  agreed_once : (one other : ℕ) → IsAgreed design watched times one → IsAgreed design watched times other → one ≡ other
  agreed_once one other is is' =
      let same = one_stop design lawful netlist watched is_watched times (agreed_stop design watched times one is) (agreed_stop design watched times other is') in
      is.count ∙ ap (λ (xs : List Sight). length xs + 1) same.before ∙ sym is'.count

  agreed_departed : (frames time signal : ℕ) (bits number : List Bit) → IsAgreed design watched times frames → IsDeparted design watched times time signal bits number → ⊥
  agreed_departed frames time signal bits number is is' =
      let same = one_stop design lawful netlist watched is_watched times (agreed_stop design watched times frames is) (departed_stop design watched times time signal bits number is') in
      no_departure design lawful netlist watched is_watched is'.sight is.numbers is'.numbers same.numbers signal bits
      (subst (λ (x : Sight). AgreesAt design x is.numbers) same.sight is.agrees) is'.departure

  agreed_unlawful : (frames time : ℕ) → IsAgreed design watched times frames → IsUnlawful design watched times time → ⊥
  agreed_unlawful frames time is is' =
      let same = one_stop design lawful netlist watched is_watched times (agreed_stop design watched times frames is) (unlawful_stop design watched times time is') in
      let none : [] ≡ is'.next ∷ is'.behind = same.behind in
      cc

  unlawful_departed : (late time signal : ℕ) (bits number : List Bit) → IsUnlawful design watched times late → IsDeparted design watched times time signal bits number → ⊥
  unlawful_departed late time signal bits number is is' =
      let same = one_stop design lawful netlist watched is_watched times (unlawful_stop design watched times late is) (departed_stop design watched times time signal bits number is') in
      no_departure design lawful netlist watched is_watched is'.sight is.numbers is'.numbers same.numbers signal bits
      (subst (λ (x : Sight). AgreesAt design x is.numbers) same.sight is.agrees) is'.departure

  unlawful_once : (one other : ℕ) → IsUnlawful design watched times one → IsUnlawful design watched times other → one ≡ other
  unlawful_once one other is is' =
      let same = one_stop design lawful netlist watched is_watched times (unlawful_stop design watched times one is) (unlawful_stop design watched times other is') in
      let behind : is.next ∷ is.behind ≡ is'.next ∷ is'.behind = same.behind in
      let next : is.next ≡ is'.next = cc in
      is.time_is ∙ ap (λ (x : Sight). x.time) next ∙ sym is'.time_is

  departed_once :
      (time time' : ℕ) (signal signal' : SigId) (bits bits' number number' : List Bit) →
      IsDeparted design watched times time signal.0 bits number → IsDeparted design watched times time' signal'.0 bits' number' →
      Departs time signal bits number ≡ Departs time' signal' bits' number'
  departed_once time time' signal signal' bits bits' number number' is is' =
      let same = one_stop design lawful netlist watched is_watched times (departed_stop design watched times time signal.0 bits number is) (departed_stop design watched times time' signal'.0 bits' number' is') in
      let departure = subst (λ (x : Sight). IsDeparture design x is.numbers signal.0 bits) same.sight is.departure in
      let one = departure_once design lawful netlist watched is_watched is'.sight is.numbers is'.numbers same.numbers signal.0 signal'.0 bits bits' departure is'.departure in
      ap (λ (t : ℕ). Departs t signal bits number) (is.time_is ∙ ap (λ (x : Sight). x.time) same.sight ∙ sym is'.time_is)
      ∙ ap (λ (i : ℕ). Departs time' (record { 0 = i }) bits number) one.signals
      ∙ ap (λ (b : List Bit). Departs time' signal' b number) one.recorded_is
      ∙ ap (λ (b : List Bit). Departs time' signal' bits' b) (is.synthesised_is ∙ one.numbers ∙ sym is'.synthesised_is)

  told_once : (one other : Verdict) → IsTold design watched times one → IsTold design watched times other → one ≡ other
  told_once (Agrees frames) (Agrees frames') is is' = ap (λ (n : ℕ). Agrees n) (agreed_once frames frames' is is')
  told_once (Agrees frames) (Departs time signal bits number) is is' = absurd (agreed_departed frames time signal.0 bits number is is')
  told_once (Departs time signal bits number) (Agrees frames) is is' = absurd (agreed_departed frames time signal.0 bits number is' is)
  told_once (Departs time signal bits number) (Departs time' signal' bits' number') is is' = departed_once time time' signal signal' bits bits' number number' is is'

  told_lawful : (one : Verdict) (time : ℕ) → IsTold design watched times one → IsUnlawful design watched times time → ⊥
  told_lawful (Agrees frames) time is unlawful = agreed_unlawful frames time is unlawful
  told_lawful (Departs time' signal bits number) time is unlawful = unlawful_departed time time' signal.0 bits number unlawful is

no_split : (xs : List Sight) (x : Sight) (ys : List Sight) → [] ≡ xs ++ x ∷ ys → ⊥
no_split [] x ys e = cc
no_split (z ∷ xs) x ys e = cc

not_told : (d : Flat) (watched : Watched) (times : List Sight) (one : Verdict) → IsTold d watched times one → from_start watched times ≡ [] → ⊥
not_told d watched times (Agrees frames) is none = no_split is.before is.last [] (sym none ∙ is.all)
not_told d watched times (Departs time signal bits number) is none = no_split is.before is.sight is.behind (sym none ∙ is.all)

-- ---- dumps

module _ (design : Flat) (lawful : AreProcesses design) (scope : List ℕ) (text : Dump) where
  abbrev d : Flat
  d = design

  pub one_verdict : (one other : Verdict) → IsVerdict d scope text one → IsVerdict d scope text other → one ≡ other
  one_verdict one other (watched, ready, told) (watched', ready', told') =
      told_once design lawful ready.netlist watched ready.is_watched (sights design scope text) one other told
      (subst (λ (w : Watched). IsTold design w (sights design scope text) other) (watched_once design watched' watched ready'.is_watched ready.is_watched) told')

  pub no_fault : (verdict : Verdict) (fault : CompareFault) → IsVerdict d scope text verdict → IsCompareFault d scope text fault → fault ≡ Memory
  no_fault verdict (MissingInput signal) (watched, ready, told) fault = absurd (not_missing (IsInput design) design scope text signal.0 fault ready.inputs)
  no_fault verdict (MissingRegister signal) (watched, ready, told) fault = absurd (not_missing (IsStored design) design scope text signal.0 fault.1 ready.stored)
  no_fault verdict NoNetlist (watched, ready, told) fault = absurd (lacks_none design fault.2 ready.netlist)
  no_fault verdict NeverKnown (watched, ready, told) (watched', ready', none) =
      absurd (not_told design watched (sights design scope text) verdict told
      (subst (λ (w : Watched). from_start w (sights design scope text) ≡ []) (watched_once design watched' watched ready'.is_watched ready.is_watched) none))
  no_fault verdict (Unlawful time) (watched, ready, told) (watched', ready', unlawful) =
      absurd (told_lawful design lawful ready.netlist watched ready.is_watched (sights design scope text) verdict time told
      (subst (λ (w : Watched). IsUnlawful design w (sights design scope text) time) (watched_once design watched' watched ready'.is_watched ready.is_watched) unlawful))
  no_fault verdict Memory is fault = refl

  -- two faults are one, unless memory ran out
  abbrev Agree : CompareFault → CompareFault → Type 0
  Agree one other = (one ≡ other) ⊎ ((one ≡ Memory) ⊎ (other ≡ Memory))

  known_lawful :
      (time : ℕ) → (watched : Watched) × IsReady d scope text watched × (from_start watched (sights d scope text) ≡ []) →
      (watched : Watched) × IsReady d scope text watched × IsUnlawful d watched (sights d scope text) time → ⊥
  known_lawful time (watched, ready, none) (watched', ready', unlawful) =
      let none' = subst (λ (w : Watched). from_start w (sights design scope text) ≡ []) (watched_once design watched watched' ready.is_watched ready'.is_watched) none in
      no_split unlawful.before unlawful.sight (unlawful.next ∷ unlawful.behind) (sym none' ∙ unlawful.all)

  unlawfuls :
      (time time' : ℕ) → (watched : Watched) × IsReady d scope text watched × IsUnlawful d watched (sights d scope text) time →
      (watched : Watched) × IsReady d scope text watched × IsUnlawful d watched (sights d scope text) time' → time ≡ time'
  unlawfuls time time' (watched, ready, unlawful) (watched', ready', unlawful') =
      unlawful_once design lawful ready.netlist watched ready.is_watched (sights design scope text) time time' unlawful
      (subst (λ (w : Watched). IsUnlawful design w (sights design scope text) time') (watched_once design watched' watched ready'.is_watched ready.is_watched) unlawful')

  no_input : (i : SigId) → IsMissing (IsInput d) d scope text i.0 → AreRecorded (IsInput d) d scope text → ⊥
  no_input i = not_missing (IsInput design) design scope text i.0

  no_register : (i : SigId) → IsMissing (IsStored d) d scope text i.0 → AreRecorded (IsStored d) d scope text → ⊥
  no_register i = not_missing (IsStored design) design scope text i.0

  pub one_fault : (one other : CompareFault) → IsCompareFault d scope text one → IsCompareFault d scope text other → Agree one other
  one_fault Memory other is is' = inr (inl refl)
  one_fault (MissingInput i) Memory is is' = inr (inr refl)
  one_fault (MissingRegister i) Memory is is' = inr (inr refl)
  one_fault NoNetlist Memory is is' = inr (inr refl)
  one_fault NeverKnown Memory is is' = inr (inr refl)
  one_fault (Unlawful time) Memory is is' = inr (inr refl)
  one_fault (MissingInput i) (MissingInput j) is is' =
      inl (ap (λ (n : ℕ). MissingInput (record { 0 = n })) (missing_once (IsInput design) design scope text i.0 j.0 is is'))
  one_fault (MissingInput i) (MissingRegister j) is is' = absurd (no_input i is is'.0)
  one_fault (MissingInput i) NoNetlist is is' = absurd (no_input i is is'.0)
  one_fault (MissingInput i) NeverKnown is is' = absurd (no_input i is is'.1.inputs)
  one_fault (MissingInput i) (Unlawful time) is is' = absurd (no_input i is is'.1.inputs)
  one_fault (MissingRegister i) (MissingInput j) is is' = absurd (no_input j is' is.0)
  one_fault NoNetlist (MissingInput j) is is' = absurd (no_input j is' is.0)
  one_fault NeverKnown (MissingInput j) is is' = absurd (no_input j is' is.1.inputs)
  one_fault (Unlawful time) (MissingInput j) is is' = absurd (no_input j is' is.1.inputs)
  one_fault (MissingRegister i) (MissingRegister j) is is' =
      inl (ap (λ (n : ℕ). MissingRegister (record { 0 = n })) (missing_once (IsStored design) design scope text i.0 j.0 is.1 is'.1))
  one_fault (MissingRegister i) NoNetlist is is' = absurd (no_register i is.1 is'.1)
  one_fault (MissingRegister i) NeverKnown is is' = absurd (no_register i is.1 is'.1.stored)
  one_fault (MissingRegister i) (Unlawful time) is is' = absurd (no_register i is.1 is'.1.stored)
  one_fault NoNetlist (MissingRegister j) is is' = absurd (no_register j is'.1 is.1)
  one_fault NeverKnown (MissingRegister j) is is' = absurd (no_register j is'.1 is.1.stored)
  one_fault (Unlawful time) (MissingRegister j) is is' = absurd (no_register j is'.1 is.1.stored)
  one_fault NoNetlist NoNetlist is is' = inl refl
  one_fault NoNetlist NeverKnown is is' = absurd (lacks_none design is.2 is'.1.netlist)
  one_fault NoNetlist (Unlawful time) is is' = absurd (lacks_none design is.2 is'.1.netlist)
  one_fault NeverKnown NoNetlist is is' = absurd (lacks_none design is'.2 is.1.netlist)
  one_fault (Unlawful time) NoNetlist is is' = absurd (lacks_none design is'.2 is.1.netlist)
  one_fault NeverKnown NeverKnown is is' = inl refl
  one_fault NeverKnown (Unlawful time) is is' = absurd (known_lawful time is is')
  one_fault (Unlawful time) NeverKnown is is' = absurd (known_lawful time is' is)
  one_fault (Unlawful time) (Unlawful time') is is' = inl (ap (λ (n : ℕ). Unlawful n) (unlawfuls time time' is is'))
