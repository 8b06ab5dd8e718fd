-- `always @* y = a;` of one bit, where y is an output: a design that meets the conditions, and is brought up by one round.
use Rattle.std.proofs.Common.{◌≡◌, ◌≢◌, ◌∙◌, ◌<◌, ◌==◌, ◌&&◌, ◌||◌, ℕ, zero, suc, Bool, true, false, if◌then◌else◌, List, [], ◌∷◌, Option, None, Some, IsSome, refl, ap, subst, inl, inr, arith}
use Rattle.std.specs.Prelude.{◌⊎◌, IsTrue}
use Rattle.std.proofs.lemmas.Bool.{eqb-true, false≢true}
use Rattle.std.proofs.lemmas.List.Elements.{All-cons, All-nil}
use Rattle.rtl_bits.specs.declared.Bit.TheVariants.{One}
use Rattle.rtl_bits.specs.Bits.{has_unknown}
use Rattle.text_ground.specs.declared.text.Spot.{Spot}
use Rattle.rtl_flat.specs.declared.signal.Signal.{Signal}
use Rattle.rtl_flat.specs.declared.signal.Kind.{Kind}
use Rattle.rtl_flat.specs.declared.signal.Kind.TheVariants.{TopInput, Var}
use Rattle.rtl_flat.specs.Expression.{Tree, Sized}
use Rattle.rtl_flat.specs.Expression as tree
use Rattle.rtl_flat.specs.Flows.{body_flow}
use Rattle.rtl_flat.specs.Levels.{IsArrow}
use Rattle.rtl_flat.specs.Paths.{Flow, MayWrite, ReadsOutside}
use Rattle.rtl_flat.specs.PathSets.{OfProcess}
use Rattle.rtl_flat.specs.Process.{Actions, Assign, Comb, Done, Edge', If, Piece, Set, Task, Then, Watched, Whole, Without}
use Rattle.rtl_flat.specs.Signs.{Has}
use Rattle.rtl_flat.specs.WellFormed.{IsAssignment, IsProcess, IsSelection}
use Rattle.rtl_flat.proofs.Paths.{decided}
use Rattle.event_model.specs.Queue.{Input, IsAtRest, Run, State, doing_at, is_input, power_up}
use Rattle.rtl_flat.specs.Flats.{Flat, widths}
use Rattle.net_rest.specs.event_laws.Steady.{AreLawful}
use Rattle.net_rest.proofs.event_laws_proofs.Steady.{lawful_processes}
use Rattle.net_rest.proofs.event_laws_proofs.Within.{may_read_outside}
use Rattle.net_model.specs.declared.fill.Fill.TheVariants as fill
use Rattle.net_model.specs.Cycle.{opened}
use Rattle.net_model.specs.Solution.{IsLasting, IsRegisterBit}
use Rattle.net_rest.specs.event_runs.Plain.{IsPlain}
use Rattle.net_rest.specs.net_laws.Tame.{HasFirmIndex}
use Rattle.net_rest.specs.Rest.{IsComputed, IsComputing, IsSolvable, numbers_of}
use Rattle.sign_cycles.specs.PowerUp.{CanAllWake, CanWake, IsBroughtUp, after_rounds, given_by}
use Rattle.sign_cycles.specs.Round.{HasNoLatch, IsSettled, Round}
use Rattle.sign_cycles.proofs.Up.{brings_up}

spot : Spot
spot = record { file = 0; at = 0 }

abbrev signal : Kind → Bool → Signal
signal kind shown = record { path = []; width = 1; signed = false; low = 0; kind = kind; top_output = shown; instance = 0; spot = spot }

abbrev signals : List Signal
signals = signal TopInput false ∷ signal Var true ∷ []

abbrev y : Piece
y = record { signal = 1; selection = Whole; spot = spot }

abbrev a : Tree
a = Sized 1 false spot (tree.Whole 0)

abbrev body : Actions
body = Then (Set (y ∷ []) a false spot) Done

abbrev task : Task
task = record { does = Comb None body; instance = 0; spot = spot }

abbrev design : Flat
design = record { signals = signals; tasks = task ∷ [] }

abbrev flow : Flow
flow = body_flow (widths design) body

-- ---- it is lawful

abbrev CanBe : Piece → Type 0
CanBe piece = IsSelection signals piece.signal piece.selection

abbrev IsVariable : Piece → Type 0
IsVariable piece = Has (λ s. s.kind ≡ Var) signals piece.signal

assigns : IsAssignment signals Var (y ∷ []) a
assigns =
    record {
      parts = All-cons CanBe y [] (omega arith) (All-nil CanBe);
      kinds = All-cons IsVariable y [] refl (All-nil IsVariable);
      not_empty = omega arith;
      at_most = omega arith;
      sized = record {
        widths = (omega arith, record { not_empty = omega arith; inside = omega arith; whole = λ _. refl }, omega arith);
        signs = ((λ signed. absurd (cc)), tt);
      };
      covered = omega arith;
    }

lawful : AreLawful design
lawful =
    lawful_processes design (All-cons (λ (one : Task). IsProcess signals one.does) task [] (tt, (assigns, tt)) (All-nil (λ (one : Task). IsProcess signals one.does)))

-- ---- its one process

first_of_and : (x z : Bool) → (((x && z) || false) || false) ≡ true → x ≡ true
first_of_and true z h = refl
first_of_and false z h = h

read_is : (i k : ℕ) → ReadsOutside flow i k → i ≡ 0
read_is i k h = eqb-true i 0 (first_of_and (i == 0) _ ((decided flow i k).reads.1 (may_read_outside _ i k h)))

written_is : (i k : ℕ) → MayWrite flow i k → i ≡ 1
written_is i k h = eqb-true i 1 (first_of_and (i == 1) _ ((decided flow i k).writes.1 h))

no_other : (q i k : ℕ) → q ≢ 0 → OfProcess MayWrite design.signals design.tasks q i k → ⊥
no_other zero i k other may = other refl
no_other (suc q) i k other may = may

plain : IsPlain design 0 None body
plain =
    record {
      lists = λ i k h. (decided flow i k).reads.1 (may_read_outside _ i k h);
      no_late = λ i k h. false≢true ((decided flow i k).late.1 h);
      apart = λ i k reads writes. let e = read_is i k reads in let f = written_is i k writes in omega (arith, e, f);
      alone = λ i k writes q other may. no_other q i k other may;
    }

body_computes : IsComputing design 0 None body
body_computes =
    record {
      plain = plain;
      tame = ((All-cons (λ (one : Piece). HasFirmIndex design one.selection) y [] tt (All-nil (λ (one : Piece). HasFirmIndex design one.selection)), tt), tt);
      exclusive = (tt, tt);
      computes = inl (λ i k may lasts. (decided flow i k).sure.0 ((decided flow i k).writes.1 may));
    }

computes : (p : ℕ) (list : Option (List Watched)) (other : Actions) → doing_at design p ≡ Some (Comb list other) → IsComputing design p list other
computes zero list other here =
    let lists : None ≡ list = cc in
    let bodies : body ≡ other = cc in
    subst (λ l. IsComputing design 0 l other) lists (subst (IsComputing design 0 None) bodies body_computes)
computes (suc p) list other here = absurd (let none : None ≡ Some (Comb list other) = here in cc)

-- it isn't one of `if` alone, so it is no latch
no_latch : HasNoLatch design
no_latch zero gate admitted =
    let latch = admitted.latch in
    let bodies : body ≡ latch.body = let same : Some (Comb None body) ≡ Some (Comb latch.list latch.body) = latch.does in cc in
    let whole : opened body ≡ Then (If latch.test latch.branch Without latch.spot) Done = ap opened bodies ∙ latch.whole in
    cc
no_latch (suc p) gate admitted = absurd (let none : None ≡ Some (Comb admitted.latch.list admitted.latch.body) = admitted.latch.does in cc)

no_assign : (p : ℕ) (target : List Piece) (e : Tree) → doing_at design p ≡ Some (Assign target e) → ⊥
no_assign zero target e here = cc
no_assign (suc p) target e here = let none : None ≡ Some (Assign target e) = here in cc

no_clock : (p : ℕ) (events : List Watched) (other : Actions) → doing_at design p ≡ Some (Edge' events other) → ⊥
no_clock zero events other here = cc
no_clock (suc p) events other here = let none : None ≡ Some (Edge' events other) = here in cc

-- ---- its equations have one solution

no_arrow : (p q : ℕ) → IsArrow design.signals design.tasks p q → ⊥
no_arrow (suc p) q arrow = arrow.«from»
no_arrow zero (suc q) arrow = arrow.to
no_arrow zero zero arrow =
    elim arrow.wanted [
      | inl outside ↦ let e = read_is arrow.signal arrow.bit outside in let f = written_is arrow.signal arrow.bit arrow.written in omega (arith, e, f)
      | inr others ↦ others.0 refl
    ]

y_written : (k : ℕ) → k < 1 → MayWrite flow 1 k
y_written zero below = (decided flow 1 0).writes.0 refl
y_written (suc k) below = absurd (omega (arith, below))

sourced : (i k : ℕ) → k < widths design i → IsLasting design i → IsTrue (is_input design i) ⊎ (IsRegisterBit design i k ⊎ IsComputed design i k)
sourced zero k inside lasts = inl refl
sourced (suc zero) k inside lasts =
    inr (inr (record { process = 0; node = tt; may = y_written k inside }))
sourced (suc (suc i)) k inside lasts = absurd (let none : k < 0 = inside in omega (arith, none))

solvable : IsSolvable design (λ p. 0)
solvable =
    record {
      lawful = lawful;
      ascends = λ p q arrow. absurd (no_arrow p q arrow);
      sourced = sourced;
      firm = λ p target e here. absurd (no_assign p target e here);
      sole = λ p target e here. absurd (no_assign p target e here);
      computing = computes;
      gated = λ p list other here gate admitted. absurd (no_latch p gate admitted);
    }

-- ---- one round brings it up

wakes : CanAllWake design
wakes zero list other here =
    let lists : None ≡ list = cc in
    let bodies : body ≡ other = cc in
    subst (λ l. CanWake design 0 l other) lists (subst (CanWake design 0 None) bodies (record { signal = 0; place = 0; inside = omega arith; listed = refl; source = inl refl }))
wakes (suc p) list other here = absurd (let none : None ≡ Some (Comb list other) = here in cc)

abbrev round : Round
round = record { step = (0, One ∷ []) ∷ []; events = Input 0 ∷ Run 0 ∷ [] }

abbrev last : State
last = after_rounds design (power_up design) (round ∷ [])

taken : (b : Bool) → (if b then None else (if b then Some (One ∷ []) else None)) ≡ None
taken true = refl
taken false = refl

waits : (p : ℕ) → IsSome (doing_at design p) → last.woken p ≡ false
waits zero some = refl
waits (suc p) some = absurd (false≢true some)

rests : IsAtRest design last
rests =
    record {
      no_active = record { inputs = λ i input. taken (i == 0); processes = waits; drivers = λ p is. refl; updates = refl };
      no_delayed = refl;
    }

given : (i : ℕ) → IsTrue (is_input design i) → has_unknown (given_by (power_up design).value (round ∷ []) i) ≡ false
given zero input = refl
given (suc zero) input = absurd (false≢true input)
given (suc (suc i)) input = absurd (false≢true input)

brought_up : IsBroughtUp design (round ∷ [])
brought_up =
    record {
      can = (record { settings = ((refl, refl), tt); can = ((refl, refl), ((refl, refl), tt)) }, tt);
      rest = rests;
      inputs = given;
      registers = λ i k register. absurd (no_clock register.process register.events register.body register.does);
      latches = λ i k held. absurd (no_latch held.latch.process held.latch.gate held.latch.admitted);
    }

settled : IsSettled design fill.Zero last (numbers_of design fill.Zero last.value)
settled = brings_up design (λ p. 0) solvable wakes fill.Zero (round ∷ []) brought_up

-- and y is the 1 that was set
shown : numbers_of design fill.Zero last.value 1 ≡ One ∷ []
shown = refl
