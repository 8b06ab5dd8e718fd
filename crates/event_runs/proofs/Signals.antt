-- Of which kind the signals are that processes and events write.
use Rattle.std.proofs.Common.{◌≡◌, ◌∙◌, ℕ, Bool, true, false, ◌||◌, List, Option, None, Some, refl, sym, ap}
use Rattle.std.specs.Prelude.{IsTrue}
use Rattle.std.specs.List.{slice_get}
use Rattle.std.specs.Option.{IsSomeAnd}
use Rattle.std.proofs.lemmas.Bool.{false≢true}
use Rattle.rtl_flat.specs.declared.signal.Kind.{Kind}
use Rattle.rtl_flat.specs.declared.signal.Kind.TheVariants.{TopInput, Net, Var}
use Rattle.rtl_flat.specs.declared.signal.Signal.{Signal}
use Rattle.rtl_flat.specs.Expression.{Tree}
use Rattle.rtl_flat.specs.Flows.{flow_of, may_target}
use Rattle.rtl_flat.specs.Paths.{MayWrite, MayWriteLate}
use Rattle.rtl_flat.specs.PathSets.{OfProcess}
use Rattle.rtl_flat.specs.Process.{Assign, Comb, Doing, Edge', Piece}
use Rattle.rtl_flat.specs.Signs.{Has}
use Rattle.rtl_flat.proofs.Paths.{decided}
use Rattle.event_model.specs.Queue.{doing_at, is_assignment, is_body, is_input, is_input_kind, is_input_of}
use Rattle.rtl_flat.specs.Flats.{Flat, widths}
use Rattle.event_laws.specs.Steady.{AreLawful}
use Rattle.event_laws.proofs.Laws.{writes_variables}
use Rattle.event_laws.proofs.Within.{target_has}
use Rattle.event_runs.proofs.May.{late_may}
use Rattle.event_runs.proofs.Writers.{from_process, of_process}

-- ---- kinds of one signal

abbrev pub IsVariable : Flat → ℕ → Type 0
IsVariable d i = Has (λ s. s.kind ≡ Var) d.signals i

abbrev pub IsNet : Flat → ℕ → Type 0
IsNet d i = Has (λ s. s.kind ≡ Net) d.signals i

-- whether a kind is a net's, and whether a variable's
abbrev is_net : Kind → Bool
is_net TopInput = false
is_net Net = true
is_net Var = false

variable_input_of : (o : Option Signal) → IsSomeAnd o (λ s. s.kind ≡ Var) → is_input_of o ≡ true → ⊥
variable_input_of None variable input = variable
variable_input_of (Some signal) variable input =
    false≢true (ap is_input_kind (sym variable) ∙ input)

net_input_of : (o : Option Signal) → IsSomeAnd o (λ s. s.kind ≡ Net) → is_input_of o ≡ true → ⊥
net_input_of None net input = net
net_input_of (Some signal) net input = false≢true (ap is_input_kind (sym net) ∙ input)

net_variable_of : (o : Option Signal) → IsSomeAnd o (λ s. s.kind ≡ Net) → IsSomeAnd o (λ s. s.kind ≡ Var) → ⊥
net_variable_of None net variable = net
net_variable_of (Some signal) net variable = false≢true (ap is_net (sym variable ∙ net))

pub variable_input : (d : Flat) (i : ℕ) → IsVariable d i → IsTrue (is_input d i) → ⊥
variable_input d i variable input = variable_input_of (slice_get d.signals i) variable input

pub net_input : (d : Flat) (i : ℕ) → IsNet d i → IsTrue (is_input d i) → ⊥
net_input d i net input = net_input_of (slice_get d.signals i) net input

pub net_variable : (d : Flat) (i : ℕ) → IsNet d i → IsVariable d i → ⊥
net_variable d i net variable = net_variable_of (slice_get d.signals i) net variable

-- ---- what processes write

module _ (d : Flat) (lawful : AreLawful d) where
  -- continuous assignments write nets
  pub target_net :
      (p : ℕ) (target : List Piece) (e : Tree) → doing_at d p ≡ Some (Assign target e) → (i k : ℕ) → may_target (widths d) target i k ≡ true → IsNet d i
  target_net p target e here i k is =
      target_has (λ s. s.kind ≡ Net) d.signals (widths d) target (lawful p (Assign target e) here).0.kinds i k is

  -- no nonblocking assignment is theirs
  never_late : (target : List Piece) (e : Tree) (i k : ℕ) → MayWriteLate (flow_of (widths d) (Assign target e)) i k → ⊥
  never_late target e i k h = false≢true ((decided (flow_of (widths d) (Assign target e)) i k).late.1 h)

  late_by : (q : ℕ) (does : Doing) → doing_at d q ≡ Some does → (i k : ℕ) → MayWriteLate (flow_of (widths d) does) i k → IsVariable d i
  late_by q (Assign target e) here i k h = absurd (never_late target e i k h)
  late_by q (Comb list body) here i k h = writes_variables d body i k (lawful q (Comb list body) here).1 (late_may _ i k h)
  late_by q (Edge' events body) here i k h = writes_variables d body i k (lawful q (Edge' events body) here).2 (late_may _ i k h)

  -- nonblocking assignments write variables
  pub late_variable : (q i k : ℕ) → OfProcess MayWriteLate d.signals d.tasks q i k → IsVariable d i
  late_variable q i k h = let (does, here, may) = of_process MayWriteLate d q i k h in late_by q does here i k may

  body_by : (q : ℕ) (does : Doing) → doing_at d q ≡ Some does → is_body (Some does) ≡ true → (i k : ℕ) → MayWrite (flow_of (widths d) does) i k → IsVariable d i
  body_by q (Assign target e) here body i k h = absurd (false≢true body)
  body_by q (Comb list body') here body i k h = writes_variables d body' i k (lawful q (Comb list body') here).1 h
  body_by q (Edge' events body') here body i k h = writes_variables d body' i k (lawful q (Edge' events body') here).2 h

  -- and so do bodies
  pub body_variable : (q : ℕ) → is_body (doing_at d q) ≡ true → (i k : ℕ) → OfProcess MayWrite d.signals d.tasks q i k → IsVariable d i
  body_variable q body i k h =
      let (does, here, may) = of_process MayWrite d q i k h in
      body_by q does here (ap is_body (sym here) ∙ body) i k may

  -- a continuous assignment may write bits of its target alone
  assign_target : (target : List Piece) (e : Tree) (i k : ℕ) → MayWrite (flow_of (widths d) (Assign target e)) i k → may_target (widths d) target i k ≡ true
  assign_target target e i k h =
      alone (may_target (widths d) target i k) ((decided (flow_of (widths d) (Assign target e)) i k).writes.1 h)
    where
      alone : (b : Bool) → (b || false) ≡ true → b ≡ true
      alone true is = refl
      alone false is = is

  pub target_may : (q : ℕ) (target : List Piece) (e : Tree) → doing_at d q ≡ Some (Assign target e) → (i k : ℕ) → OfProcess MayWrite d.signals d.tasks q i k → may_target (widths d) target i k ≡ true
  target_may q target e here i k h =
      assign_target target e i k (from_process MayWrite d q i k (Assign target e) here h)

  assign_by : (q : ℕ) (does : Doing) → doing_at d q ≡ Some does → is_assignment (Some does) ≡ true → (i k : ℕ) → MayWrite (flow_of (widths d) does) i k → IsNet d i
  assign_by q (Comb list body) here is i k h = absurd (false≢true is)
  assign_by q (Edge' events body) here is i k h = absurd (false≢true is)
  assign_by q (Assign target e) here is i k h = target_net q target e here i k (assign_target target e i k h)

  pub assign_net : (q : ℕ) → is_assignment (doing_at d q) ≡ true → (i k : ℕ) → OfProcess MayWrite d.signals d.tasks q i k → IsNet d i
  assign_net q is i k h =
      let (does, here, may) = of_process MayWrite d q i k h in
      assign_by q does here (ap is_assignment (sym here) ∙ is) i k may
