-- Either one step sets all inputs with each reset active and each gate open, or one input resets one process at 1 and another
-- at 0.
use Rattle.std.proofs.Common.{◌≡◌, ◌∙◌, ◌⊎◌, ◌<◌, ◌≤◌, ◌==◌, ◌||◌, ℕ, zero, suc, Bool, true, false, if◌then◌else◌, List, [], ◌∷◌, length, get_or, replicate, Option, None, Some, refl, sym, ap, subst, inl, inr, arith}
use Rattle.std.specs.Prelude.{IsTrue}
use Rattle.std.specs.Option.{is_some}
use Rattle.std.specs.List.{All}
use Rattle.std.proofs.lemmas.Bool.{cases_Bool, cases_eq, eq-eqb, false≢true, true≢false, ne_eqb, or_cases, or_left, or_right}
use Rattle.std.proofs.lemmas.List.{get_or-replicate, length-replicate}
use Rattle.std.proofs.lemmas.Option.{none-some, same_Some}
use Rattle.std.proofs.lemmas.List.Elements.{All-cons, All-head, All-nil, All-tail}
use Rattle.rtl_bits.specs.declared.Bit.{Bit}
use Rattle.rtl_bits.specs.declared.Bit.TheVariants.{Zero, One, X}
use Rattle.rtl_bits.specs.declared.Edge.{Edge}
use Rattle.rtl_bits.specs.declared.Edge.TheVariants.{No, Pos, Neg}
use Rattle.rtl_bits.specs.Bit.{is_one, is_unknown}
use Rattle.rtl_bits.specs.Bits.{has_unknown, same_bit}
use Rattle.rtl_flat.specs.declared.expr.Compare.TheVariants as compare
use Rattle.rtl_flat.specs.declared.expr.Fold.TheVariants as fold
use Rattle.rtl_flat.specs.declared.expr.Turn.TheVariants as turn
use Rattle.rtl_flat.specs.Expression.{Tree, Sized, Literal, Whole, Turned, Compared, Folded}
use Rattle.rtl_flat.specs.Process.{Watched, Actions, Doing, Assign, Comb, Edge'}
use Rattle.rtl_flat.specs.WellFormed.{has_edge}
use Rattle.event_model.specs.Queue.{doing_at, is_input, power_up}
use Rattle.event_model.proofs.Active.{signal_there, task_there}
use Rattle.rtl_flat.specs.Flats.{Flat, widths}
use Rattle.event_model.specs.Writes.{Values, put}
use Rattle.event_edges.proofs.event_laws_proofs.Lengths.{put_at, put_other}
use Rattle.event_edges.proofs.event_laws_proofs.Unheard.{same_bits}
use Rattle.net_model.specs.declared.fill.Fill.TheVariants as fill
use Rattle.net_model.specs.Control.{Here, IsBehind, IsClockOrReset, IsReached, Next}
use Rattle.net_model.specs.Cycle.{Chain, Guard, Setting, given_after, level}
use Rattle.net_model.specs.Gates.{Gate, IsAdmitted, IsGateInput, gate_compared, gate_test}
use Rattle.net_model.specs.Numbers.{bit}
use Rattle.net_model.proofs.Gates.{gate_is_input}
use Rattle.event_edges.specs.Synchronous.{IsItem}
use Rattle.event_edges.proofs.Cone.{item_clock, item_reached}
use Rattle.sign_cycles.specs.BringUp.{IsAtLevel, IsBringUp, SetsInput, given_by, sets}
use Rattle.sign_cycles.specs.Formed.{IsCleanClocked}
use Rattle.sign_cycles.specs.Lacking.{AreGatesDecided, BringUpsAre, IsResetAt, ResetsApart}
use Rattle.sign_cycles.proofs.Edges.{clock_bit}
use Rattle.sign_cycles.proofs.Resets as reset

-- ---- levels

level_is : (edge : Edge) → IsTrue (has_edge edge) → (level edge ≡ One) ⊎ (level edge ≡ Zero)
level_is No edged = absurd (false≢true edged)
level_is Pos edged = inl refl
level_is Neg edged = inr refl

one_zero : ◌≡◌ {A = Bit} One Zero → ⊥
one_zero same = true≢false (ap is_one same)

-- two bits are the same or they aren't
bits_are : (a b : Bit) → (a ≡ b) ⊎ (a ≡ b → ⊥)
bits_are a b =
    elim (cases_Bool (same_bit a b)) [
      | inl is ↦ inl (same_bits a b is)
      | inr other ↦ inr (λ same. true≢false (sym (ap (same_bit a) (sym same) ∙ reset.same_self a) ∙ other))
    ]

-- a gate opens at 0 or at 1
either_known : (signal g : ℕ) (b opens : Bit) → is_unknown b ≡ false → ◌≡◌ {A = Option (ℕ × Bit)} (Some (g, b)) (Some (signal, opens)) → is_unknown opens ≡ false
either_known signal g b opens known is =
    ap is_unknown (sym (ap (λ (one : ℕ × Bit). one.1) (same_Some (g, b) (signal, opens) is))) ∙ known

compared_known : (g : ℕ) (bits : List Bit) (signal : ℕ) (opens : Bit) → gate_compared g bits ≡ Some (signal, opens) → is_unknown opens ≡ false
compared_known g (One ∷ []) signal opens is = either_known signal g One opens refl is
compared_known g (Zero ∷ []) signal opens is = either_known signal g Zero opens refl is
compared_known g _ signal opens is = absurd (none-some _ is)

if_known : (b : Bool) (g signal : ℕ) (opens : Bit) → ◌≡◌ {A = Option (ℕ × Bit)} (if b then Some (g, Zero) else None) (Some (signal, opens)) → is_unknown opens ≡ false
if_known true g signal opens is = either_known signal g Zero opens refl is
if_known false g signal opens is = absurd (none-some _ is)

test_known : (test : Tree) (signal : ℕ) (opens : Bit) → gate_test test ≡ Some (signal, opens) → is_unknown opens ≡ false
test_known (Sized w s at (Whole g)) signal opens is = either_known signal g One opens refl is
test_known (Sized w s at (Folded fold.Negation (Sized w' s' at' (Whole g)))) signal opens is =
    either_known signal g Zero opens refl is
test_known (Sized w s at (Turned turn.Complement (Sized w' s' at' (Whole g)))) signal opens is =
    if_known (w' == 1) g signal opens is
test_known (Sized w s at (Compared compare.Equal t (Sized w' s' at' (Whole g)) (Sized w'' s'' at'' (Literal bits)))) signal opens is =
    compared_known g bits signal opens is
test_known _ signal opens is = absurd (none-some _ is)

-- what is behind a signal of one bit has one bit
behind_wide : (d : Flat) (start j : ℕ) → IsBehind d start j → widths d j ≡ 1 → widths d start ≡ 1
behind_wide d start j (Here) one = one
behind_wide d start j (Next i j' p target value before is link) one = behind_wide d start i before link.one_bit

-- what can be told of each number below a bound is found there or other
find_below : (P : ℕ → Type 0) → ((p : ℕ) → P p ⊎ (P p → ⊥)) → (n : ℕ) → ((p : ℕ) × P p) ⊎ ((p : ℕ) → p < n → P p → ⊥)
find_below P tell zero = inr (λ p below. absurd (omega (arith, below)))
find_below P tell (suc n) =
    elim (tell n) [
      | inl here ↦ inl (n, here)
      | inr not_here ↦
          elim (find_below P tell n) [
            | inl some ↦ inl some
            | inr none ↦ inr (λ p below.
                elim (cases_eq p n) [
                  | inl same ↦ λ is. not_here (subst P same is)
                  | inr other ↦ none p (omega (arith, below, other))
                ])
          ]
    ]

-- ---- what one input resets

module _ (d : Flat) (chains : ℕ → Chain) (level_of : ℕ → ℕ) (clean : IsCleanClocked d chains level_of) where
  -- the one reset of a process that waits for edges
  record HasReset (p : ℕ) (guard : Guard) : Type 0 where
    pub events : List Watched
    pub body : Actions
    pub does : doing_at d p ≡ Some (Edge' events body)
    pub only : (chains p).resets ≡ guard ∷ []

  item : (p : ℕ) (guard : Guard) (has : HasReset p guard) → IsItem d p has.events has.body guard.item
  item p guard has = reset.item d chains level_of clean fill.Zero p has.events has.body has.does guard has.only

  edged : (p : ℕ) (guard : Guard) → HasReset p guard → (level guard.item.edge ≡ One) ⊎ (level guard.item.edge ≡ Zero)
  edged p guard has =
      level_is guard.item.edge (clean.synchronous.edges p has.events has.body guard.item (item p guard has))

  is_at :
      (c p : ℕ) (guard : Guard) (has : HasReset p guard) (active : Bit) → IsReached d c guard.item.signal →
      level guard.item.edge ≡ active → (one : IsResetAt d chains c active) × (one.process ≡ p)
  is_at c p guard has active reached at = (
    record {
      process = p;
      events = has.events;
      body = has.body;
      does = has.does;
      guard = guard;
      only = has.only;
      reached = reached;
      at = at;
    },
    refl,
  )

  -- a process that waits for edges has no reset or one
  none_or_one :
      (P : List Guard → Type 0) (p : ℕ) (events : List Watched) (body : Actions) →
      doing_at d p ≡ Some (Edge' events body) → ((chains p).resets ≡ [] → P []) →
      ((guard : Guard) → HasReset p guard → P (guard ∷ [])) → P (chains p).resets
  none_or_one P p events body does none one =
      by (chains p).resets refl (clean.formed p events body does).one_reset
    where
      by : (resets : List Guard) → (chains p).resets ≡ resets → length resets ≤ 1 → P resets
      by [] is few = none is
      by (guard ∷ []) is few = one guard (record { events = events; body = body; does = does; only = is })
      by (guard ∷ other ∷ others) is few = absurd (omega (arith, few))

  module _ (c : ℕ) (input : IsTrue (is_input d c)) where
    -- a process whose one reset it is
    abbrev Is : Bit → ℕ → Type 0
    Is active p = (one : IsResetAt d chains c active) × (one.process ≡ p)

    not_this :
        (active : Bit) (p : ℕ) (o : Option Doing) → doing_at d p ≡ o →
        ((events : List Watched) (body : Actions) → o ≡ Some (Edge' events body) → ⊥) → Is active p → ⊥
    not_this active p o is never (one, same) =
        never one.events one.body (sym is ∙ ap (doing_at d) (sym same) ∙ one.does)

    not_alone :
        (active : Bit) (p : ℕ) →
        ((guard : Guard) → (chains p).resets ≡ guard ∷ [] → IsReached d c guard.item.signal →
        level guard.item.edge ≡ active → ⊥) → Is active p → ⊥
    not_alone active p never (one, same) =
        never one.guard (ap (λ (q : ℕ). (chains q).resets) (sym same) ∙ one.only) one.reached one.at

    -- whether a process is one can be told
    tell : (active : Bit) (p : ℕ) → Is active p ⊎ (Is active p → ⊥)
    tell active p = by_doing (doing_at d p) refl
      where
        by_guard : (guard : Guard) → HasReset p guard → Is active p ⊎ (Is active p → ⊥)
        by_guard guard has =
            elim (item_reached d clean.synchronous p has.events has.body guard.item (item p guard has) c input) [
              | inl reached ↦
                  elim (bits_are (level guard.item.edge) active) [
                    | inl at ↦ inl (is_at c p guard has active reached at)
                    | inr other ↦ inr (not_alone active p (λ one only reached' at.
                        let same : guard ∷ [] ≡ one ∷ [] = sym has.only ∙ only in
                        let here : guard ≡ one = cc in
                        other (ap (λ (g : Guard). level g.item.edge) here ∙ at)))
                  ]
              | inr apart ↦ inr (not_alone active p (λ one only reached at.
                  let same : guard ∷ [] ≡ one ∷ [] = sym has.only ∙ only in
                  let here : guard ≡ one = cc in
                  apart (subst (λ (g : Guard). IsReached d c g.item.signal) (sym here) reached)))
            ]

        by_doing : (o : Option Doing) → doing_at d p ≡ o → Is active p ⊎ (Is active p → ⊥)
        by_doing None is = inr (not_this active p None is (λ events body no. cc (no)))
        by_doing (Some (Assign target e)) is =
            inr (not_this active p (Some (Assign target e)) is (λ events body no. cc (no)))
        by_doing (Some (Comb list body)) is =
            inr (not_this active p (Some (Comb list body)) is (λ events body' no. cc (no)))
        by_doing (Some (Edge' events body)) is =
            none_or_one (λ resets. Is active p ⊎ (Is active p → ⊥)) p events body is
            (λ none. inr (not_alone active p (λ one only reached at.
            let never : [] ≡ one ∷ [] = sym none ∙ only in absurd (cc))))
            by_guard

    abbrev HasOne : Bit → Type 0
    HasOne active = ((p : ℕ) × Is active p) ⊎ ((p : ℕ) → p < length d.tasks → Is active p → ⊥)

    has_one : (active : Bit) → HasOne active
    has_one active = find_below (Is active) (tell active) (length d.tasks)

  -- a level at which each reset that comes from an input is active, and each latch that it is the gate of is open
  record HasLevel (c : ℕ) : Type 0 where
    pub active : Bit
    pub known : is_unknown active ≡ false
    pub opens : (p : ℕ) (gate : Gate) → IsAdmitted d p gate → gate.input ≡ c → gate.opens ≡ active
    pub holds :
        IsTrue (is_input d c) → (p : ℕ) (guard : Guard) → HasReset p guard →
        IsReached d c guard.item.signal → level guard.item.edge ≡ active

  -- where it resets none at the other level
  holds_at :
      (c : ℕ) (input : IsTrue (is_input d c)) (active other : Bit) →
      ((b : Bit) → (b ≡ One) ⊎ (b ≡ Zero) → (b ≡ active) ⊎ (b ≡ other)) →
      ((p : ℕ) → p < length d.tasks → Is c input other p → ⊥) →
      (p : ℕ) (guard : Guard) → HasReset p guard → IsReached d c guard.item.signal → level guard.item.edge ≡ active
  holds_at c input active other either none p guard has reached =
      elim (either (level guard.item.edge) (edged p guard has)) [
        | inl is ↦ is
        | inr at ↦
            absurd (none p (task_there d p (ap is_some has.does)) (is_at c p guard has other reached at))
      ]

  -- the other way round
  swapped : (b : Bit) → (b ≡ One) ⊎ (b ≡ Zero) → (b ≡ Zero) ⊎ (b ≡ One)
  swapped b (inl high) = inr high
  swapped b (inr low) = inl low

  -- what is no input resets nothing
  no_input : (c : ℕ) → is_input d c ≡ false → HasLevel c
  no_input c none =
      record {
        active = Zero;
        known = refl;
        opens = λ p gate admitted same.
            absurd (false≢true (sym none ∙ gate_is_input d c (record { process = p; gate = gate; admitted = admitted; same = same })));
        holds = λ input. absurd (false≢true (sym none ∙ input));
      }

  -- a gate resets nothing
  of_gate : (c : ℕ) → IsGateInput d c → HasLevel c
  of_gate c is =
      record {
        active = is.gate.opens;
        known = test_known is.admitted.latch.test is.gate.signal is.gate.opens is.admitted.latch.tests;
        opens = λ p gate admitted same. is.admitted.alike p gate admitted.latch (same ∙ sym is.same);
        holds = λ input p guard has reached.
            absurd (is.admitted.no_clock (subst (IsClockOrReset d) (sym is.same)
            (item_clock d clean.synchronous p has.events has.body guard.item (item p guard has) c input reached)));
      }

  answer : AreGatesDecided d → (c : ℕ) → HasLevel c ⊎ ResetsApart d chains
  answer decided c =
      elim (cases_Bool (is_input d c)) [
        | inl input ↦
            elim (decided c) [
              | inl gate ↦ inl (of_gate c gate)
              | inr no_gate ↦ of_input no_gate input (has_one c input One) (has_one c input Zero)
            ]
        | inr none ↦ inl (no_input c none)
      ]
    where
      none_opens : (IsGateInput d c → ⊥) → (active : Bit) (p : ℕ) (gate : Gate) → IsAdmitted d p gate → gate.input ≡ c → gate.opens ≡ active
      none_opens no_gate active p gate admitted same =
          absurd (no_gate (record { process = p; gate = gate; admitted = admitted; same = same }))

      of_input :
          (IsGateInput d c → ⊥) → (input : IsTrue (is_input d c)) → HasOne c input One → HasOne c input Zero →
          HasLevel c ⊎ ResetsApart d chains
      of_input no_gate input (inl (p, up)) (inl (q, down)) =
          inr (record { input = c; is = input; up = up.0; down = down.0 })
      of_input no_gate input (inl up) (inr none) =
          inl (record { active = One; known = refl; opens = none_opens no_gate One; holds = λ input'. holds_at c input One Zero (λ b is. is) none })
      of_input no_gate input (inr none) down =
          inl (record { active = Zero; known = refl; opens = none_opens no_gate Zero; holds = λ input'. holds_at c input Zero One swapped none })

  -- so it is of all inputs
  answers : AreGatesDecided d → (n : ℕ) → ((c : ℕ) → c < n → HasLevel c) ⊎ ResetsApart d chains
  answers decided zero = inl (λ c below. absurd (omega (arith, below)))
  answers decided (suc n) =
      elim (answers decided n) [
        | inr apart ↦ inr apart
        | inl each ↦
            elim (answer decided n) [
              | inr apart ↦ inr apart
              | inl here ↦ inl (λ c below.
                  elim (cases_eq c n) [
                    | inl same ↦ subst HasLevel (sym same) here
                    | inr other ↦ each c (omega (arith, below, other))
                  ])
            ]
      ]

  -- ---- one step that sets all of them

  module _ (levels : (c : ℕ) → HasLevel c) where
    abbrev number : ℕ → List Bit
    number i = replicate (widths d i) (levels i).active

    abbrev with_input : Bool → ℕ → List Setting → List Setting
    with_input b i all = if b then record { input = i; number = number i } ∷ all else all

    abbrev below : ℕ → List Setting
    below zero = []
    below (suc n) = with_input (is_input d n) n (below n)

    known_number : (n : ℕ) (b : Bit) → is_unknown b ≡ false → has_unknown (replicate n b) ≡ false
    known_number zero b known = refl
    known_number (suc n) b known = ap (λ (u : Bool). u || has_unknown (replicate n b)) known ∙ known_number n b known

    -- a setting of an input to its number
    record IsOurs (setting : Setting) : Type 0 where
      pub sets : SetsInput d setting
      pub number_is : setting.number ≡ number setting.input

    all_ours : (n : ℕ) → All IsOurs (below n)
    all_ours zero = All-nil IsOurs
    all_ours (suc n) = by (is_input d n) refl (all_ours n)
      where
        by : (b : Bool) → is_input d n ≡ b → All IsOurs (below n) → All IsOurs (with_input b n (below n))
        by false none ours = ours
        by true input ours =
            All-cons IsOurs (record { input = n; number = number n }) (below n)
            (record {
              sets = record {
                input = input;
                can_be = record {
                  wide = length-replicate (widths d n) (levels n).active;
                  known = known_number (widths d n) (levels n).active (levels n).known;
                };
              };
              number_is = refl;
            })
            ours

    all_set : (n i : ℕ) → i < n → IsTrue (is_input d i) → sets i (below n) ≡ true
    all_set zero i inside input = absurd (omega (arith, inside))
    all_set (suc n) i inside input =
        elim (cases_eq i n) [
          | inl same ↦ here (is_input d n) (ap (is_input d) (sym same) ∙ input) same
          | inr other ↦ there (is_input d n) (all_set n i (omega (arith, inside, other)) input)
        ]
      where
        here : (b : Bool) → b ≡ true → i ≡ n → sets i (with_input b n (below n)) ≡ true
        here false never same = absurd (false≢true never)
        here true input same = or_left (n == i) (sets i (below n)) (eq-eqb n i (sym same))

        there : (b : Bool) → sets i (below n) ≡ true → sets i (with_input b n (below n)) ≡ true
        there false set = set
        there true set = or_right (n == i) (sets i (below n)) set

    -- what is set has its number
    given_number :
        (v : Values) (all : List Setting) → All IsOurs all → (i : ℕ) →
        (sets i all ≡ true) ⊎ (v i ≡ number i) → given_after v all i ≡ number i
    given_number v [] ours i (inl never) = absurd (false≢true never)
    given_number v [] ours i (inr is) = is
    given_number v (setting ∷ others) ours i which =
        given_number (put v setting.input setting.number) others (All-tail IsOurs setting others ours) i
        (elim (cases_eq i setting.input) [
          | inl same ↦
              inr (put_at v setting.input i setting.number same
              ∙ (All-head IsOurs setting others ours).number_is ∙ ap number (sym same))
          | inr other ↦ by_other other which
        ])
      where
        by_other :
            (i ≡ setting.input → ⊥) → (sets i (setting ∷ others) ≡ true) ⊎ (v i ≡ number i) →
            (sets i others ≡ true) ⊎ (put v setting.input setting.number i ≡ number i)
        by_other other (inl set) =
            elim (or_cases (setting.input == i) (sets i others) set) [
              | inl here ↦ absurd (false≢true (sym (ne_eqb setting.input i (λ same. other (sym same))) ∙ here))
              | inr there ↦ inl there
            ]
        by_other other (inr is) = inr (put_other v setting.input i setting.number other ∙ is)

    abbrev all : List Setting
    all = below (length d.signals)

    set_there : (i : ℕ) → IsTrue (is_input d i) → sets i all ≡ true
    set_there i input = all_set (length d.signals) i (signal_there d i input) input

    all_settings : (some : List Setting) → All IsOurs some → All (SetsInput d) some
    all_settings [] ours = All-nil (SetsInput d)
    all_settings (setting ∷ others) ours =
        All-cons (SetsInput d) setting others (All-head IsOurs setting others ours).sets
        (all_settings others (All-tail IsOurs setting others ours))

    abbrev given : Values
    given = given_by (power_up d).value (all ∷ [])

    -- so each reset is active
    is_active : (p : ℕ) (guard : Guard) → HasReset p guard → IsAtLevel d given guard
    is_active p guard has c input reached =
        let clock = item_clock d clean.synchronous p has.events has.body guard.item (item p guard has) c input reached in
        let one : widths d c ≡ 1 = clock_bit d clean.synchronous c clock in
        let ours = all_ours (length d.signals) in
        ap (λ (bits : List Bit). get_or bits 0 X) (given_number (power_up d).value all ours c (inl (set_there c input)))
        ∙ get_or-replicate (widths d c) 0 (levels c).active X (omega (arith, one))
        ∙ sym ((levels c).holds input p guard has reached)

    at_levels :
        (p : ℕ) (events : List Watched) (body : Actions) → doing_at d p ≡ Some (Edge' events body) →
        All (IsAtLevel d given) (chains p).resets
    at_levels p events body does =
        none_or_one (All (IsAtLevel d given)) p events body does (λ none. All-nil (IsAtLevel d given))
        (λ guard has. All-cons (IsAtLevel d given) guard [] (is_active p guard has) (All-nil (IsAtLevel d given)))

    -- and each gate is open
    is_open :
        (p : ℕ) (gate : Gate) → IsAdmitted d p gate → bit given gate.input 0 ≡ gate.opens
    is_open p gate admitted =
        let latch = admitted.latch in
        let gated = clean.solvable.gated p latch.list latch.body latch.does gate admitted in
        let one : widths d gate.input ≡ 1 = behind_wide d gate.input gate.signal gated.behind gated.one_bit in
        let ours = all_ours (length d.signals) in
        ap (λ (bits : List Bit). get_or bits 0 X) (given_number (power_up d).value all ours gate.input (inl (set_there gate.input gated.input)))
        ∙ get_or-replicate (widths d gate.input) 0 (levels gate.input).active X (omega (arith, one))
        ∙ sym ((levels gate.input).opens p gate admitted refl)

    brings : IsBringUp d chains (all ∷ [])
    brings =
        record {
          some_step = λ none. absurd (omega (arith, ap length none));
          settings =
              All-cons (All (SetsInput d)) all [] (all_settings all (all_ours (length d.signals)))
              (All-nil (All (SetsInput d)));
          all_set = λ i input. or_left (sets i all) false (set_there i input);
          resets = at_levels;
          gates = is_open;
        }

  -- ---- one or the other

  -- past the signals there is no input
  every : ((c : ℕ) → c < length d.signals → HasLevel c) → (c : ℕ) → HasLevel c
  every each c =
      elim (cases_Bool (is_input d c)) [
        | inl input ↦ each c (signal_there d c input)
        | inr none ↦ no_input c none
      ]

  one_of : AreGatesDecided d → ((steps : List (List Setting)) × IsBringUp d chains steps) ⊎ ResetsApart d chains
  one_of decided =
      elim (answers decided (length d.signals)) [
        | inl each ↦ inl (all (every each) ∷ [], brings (every each))
        | inr apart ↦ inr apart
      ]

-- after a bring-up an input has the level at which it is a reset
at_level :
    (d : Flat) (chains : ℕ → Chain) (steps : List (List Setting)) → IsBringUp d chains steps →
    (c : ℕ) → IsTrue (is_input d c) → (active : Bit) → IsResetAt d chains c active →
    bit (given_by (power_up d).value steps) c 0 ≡ active
at_level d chains steps is c input active one =
    let given = given_by (power_up d).value steps in
    All-head (IsAtLevel d given) one.guard []
    (subst (All (IsAtLevel d given)) one.only (is.resets one.process one.events one.body one.does)) c input one.reached
    ∙ one.at

-- so no bring-up resets both
pub not_both :
    (d : Flat) (chains : ℕ → Chain) → ResetsApart d chains →
    (steps : List (List Setting)) → IsBringUp d chains steps → ⊥
not_both d chains apart steps is =
    one_zero (sym (at_level d chains steps is apart.input apart.is One apart.up)
    ∙ at_level d chains steps is apart.input apart.is Zero apart.down)

pub bring_ups :
    (d : Flat) (chains : ℕ → Chain) (level_of : ℕ → ℕ) → IsCleanClocked d chains level_of → AreGatesDecided d → BringUpsAre d chains
bring_ups d chains level_of clean decided =
    record { one = one_of d chains level_of clean decided; not_both = not_both d chains }
