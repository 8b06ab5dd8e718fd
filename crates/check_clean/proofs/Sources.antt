-- Which signals come from top inputs is decided.
use Rattle.std.proofs.Common.{◌≡◌, ◌∙◌, ◌<◌, ◌⊎◌, ℕ, Bool, [], ◌∷◌, Option, None, Some, length, refl, sym, ap, subst, inl, inr, arith}
use Rattle.std.specs.List.{slice_get}
use Rattle.std.specs.Option.{IsSomeAnd}
use Rattle.std.proofs.lemmas.Bool.{cases_eq}
use Rattle.std.proofs.lemmas.Option.{slice_get_within}
use Rattle.rtl_flat.specs.declared.signal.Kind.{Kind}
use Rattle.rtl_flat.specs.declared.signal.Kind.TheVariants.{TopInput, Net, Var}
use Rattle.rtl_flat.specs.declared.signal.Signal.{Signal}
use Rattle.rtl_flat.specs.Expression.{Tree, Sized}
use Rattle.rtl_flat.specs.Expression as tree
use Rattle.rtl_flat.specs.Process.{Selection, Piece, Doing, Assign, Comb, Edge', Task}
use Rattle.rtl_flat.specs.Process as part
use Rattle.rtl_flat.specs.Signs.{Has}
use Rattle.rtl_flat.specs.Flats.{Flat, widths}
use Rattle.net_model.specs.Gates.{ComesFrom, GoesTo, IsPlainConnection, Itself, Through}
use Rattle.check_laws.specs.Clocks.{AreSourcesDecided}
use Rattle.check_laws.proofs.Decisions.{Decided, both, either_of, neither, some_of, there_decided}
use Rattle.check_laws.proofs.Sites.{signal_there}
use Rattle.check_clean.proofs.Closure.{Joins, at_once, joined, joins_decided, joins_in}

module _ (d : Flat) where
  -- ---- one connection

  record IsStep (i j : ℕ) : Type 0 where
    process : ℕ
    task : Task
    there : slice_get d.tasks process ≡ Some task
    plain : IsPlainConnection d task i j

  module _ (task : Task) (i j : ℕ) where
    outside_decided : Decided (Has (λ signal. signal.instance ≡ task.instance → ⊥) d.signals j)
    outside_decided =
        there_decided (λ (signal : Signal). signal.instance ≡ task.instance → ⊥) (slice_get d.signals j) (λ signal there. neither (signal.instance ≡ task.instance) (cases_eq signal.instance task.instance))

    -- the other conditions, of a piece and the name that it takes
    abbrev Fits : ℕ → Piece → ℕ → Type 0
    Fits w piece name =
        (w ≡ 1) × (piece.signal ≡ j) × (piece.selection ≡ part.Whole) × (name ≡ i) × Has (λ signal. signal.instance ≡ task.instance → ⊥) d.signals j × (widths d i ≡ 1) × (widths d j ≡ 1)

    whole_decided : (selection : Selection) → Decided (selection ≡ part.Whole)
    whole_decided part.Whole = inl refl
    whole_decided (part.BitAt low index) = inr (λ e. absurd (cc))
    whole_decided (part.BitBy low index) = inr (λ e. absurd (cc))
    whole_decided (part.Part low width) = inr (λ e. absurd (cc))

    fits_decided : (w : ℕ) (piece : Piece) (name : ℕ) → Decided (Fits w piece name)
    fits_decided w piece name =
        by_parts (cases_eq w 1) (cases_eq piece.signal j) (whole_decided piece.selection) (cases_eq name i) outside_decided (cases_eq (widths d i) 1) (cases_eq (widths d j) 1)
      where
        by_parts : Decided (w ≡ 1) → Decided (piece.signal ≡ j) → Decided (piece.selection ≡ part.Whole) → Decided (name ≡ i) → Decided (Has (λ signal. signal.instance ≡ task.instance → ⊥) d.signals j) → Decided (widths d i ≡ 1) → Decided (widths d j ≡ 1) → Decided (Fits w piece name)
        by_parts (inl a) (inl b) (inl c) (inl e) (inl f) (inl g) (inl h) = inl (a, b, c, e, f, g, h)
        by_parts (inr a) b c e f g h = inr (λ all. a all.0)
        by_parts (inl a) (inr b) c e f g h = inr (λ all. b all.1)
        by_parts (inl a) (inl b) (inr c) e f g h = inr (λ all. c all.2)
        by_parts (inl a) (inl b) (inl c) (inr e) f g h = inr (λ all. e all.3)
        by_parts (inl a) (inl b) (inl c) (inl e) (inr f) g h = inr (λ all. f all.4)
        by_parts (inl a) (inl b) (inl c) (inl e) (inl f) (inr g) h = inr (λ all. g all.5)
        by_parts (inl a) (inl b) (inl c) (inl e) (inl f) (inl g) (inr h) = inr (λ all. h all.6)

    plain_of : (w : ℕ) (s : Bool) (at : _) (piece : Piece) (name : ℕ) → task.does ≡ Assign (piece ∷ []) (Sized w s at (tree.Whole name)) → Fits w piece name → IsPlainConnection d task i j
    plain_of w s at piece name does fits =
        record {
          signed = s;
          spot = at;
          at = piece.spot;
          does = does
              ∙ ap (λ n. Assign (record { signal = n; selection = piece.selection; spot = piece.spot } ∷ []) (Sized w s at (tree.Whole name))) fits.1
              ∙ ap (λ x. Assign (record { signal = j; selection = x; spot = piece.spot } ∷ []) (Sized w s at (tree.Whole name))) fits.2
              ∙ ap (λ n. Assign (record { signal = j; selection = part.Whole; spot = piece.spot } ∷ []) (Sized n s at (tree.Whole name))) fits.0
              ∙ ap (λ n. Assign (record { signal = j; selection = part.Whole; spot = piece.spot } ∷ []) (Sized 1 s at (tree.Whole n))) fits.3;
          outside = fits.4;
          one_bit = fits.5;
          port_bit = fits.6;
        }

    fits_of : (w : ℕ) (s : Bool) (at : _) (piece : Piece) (name : ℕ) → task.does ≡ Assign (piece ∷ []) (Sized w s at (tree.Whole name)) → IsPlainConnection d task i j → Fits w piece name
    fits_of w s at piece name does plain =
        let same : Assign (piece ∷ []) (Sized w s at (tree.Whole name)) ≡ Assign (record { signal = j; selection = part.Whole; spot = plain.at } ∷ []) (Sized 1 plain.signed plain.spot (tree.Whole i)) = sym does ∙ plain.does in
        let one : piece ≡ record { signal = j; selection = part.Whole; spot = plain.at } = cc (same) in
        let width : w ≡ 1 = cc (same) in
        let signal : name ≡ i = cc (same) in
        (width, ap (λ (x : Piece). x.signal) one, ap (λ (x : Piece). x.selection) one, signal, plain.outside, plain.one_bit, plain.port_bit)

    by_doing : (does : Doing) → task.does ≡ does → Decided (IsPlainConnection d task i j)
    by_doing (Assign (piece ∷ []) (Sized w s at (tree.Whole name))) is =
        elim (fits_decided w piece name) [
          | inl fits ↦ inl (plain_of w s at piece name is fits)
          | inr misses ↦ inr (λ plain. misses (fits_of w s at piece name is plain))
        ]
    by_doing does is = inr (λ plain. let same = sym is ∙ plain.does in absurd (cc))

    plain_decided : Decided (IsPlainConnection d task i j)
    plain_decided = by_doing task.does refl

  abbrev IsAt : ℕ → ℕ → ℕ → Type 0
  IsAt i j p = IsSomeAnd (slice_get d.tasks p) (λ task. IsPlainConnection d task i j)

  step_at : (i j p : ℕ) → IsAt i j p → IsStep i j
  step_at i j p h = by_task (slice_get d.tasks p) refl h
    where
      by_task : (o : Option Task) → slice_get d.tasks p ≡ o → IsSomeAnd o (λ task. IsPlainConnection d task i j) → IsStep i j
      by_task None there none = absurd none
      by_task (Some task) there plain = record { process = p; task = task; there = there; plain = plain }

  at_step : (i j : ℕ) → (step : IsStep i j) → IsAt i j step.process
  at_step i j step =
      subst (λ o. IsSomeAnd o (λ (task : Task). IsPlainConnection d task i j)) (sym step.there) step.plain

  step_decided : (i j : ℕ) → Decided (IsStep i j)
  step_decided i j =
      by_process (some_of (IsAt i j) (λ p. there_decided (λ (task : Task). IsPlainConnection d task i j) (slice_get d.tasks p) (λ task there. plain_decided task i j)) (length d.tasks) process_below)
    where
      process_below : (p : ℕ) → IsAt i j p → p < length d.tasks
      process_below p h = by_task (slice_get d.tasks p) refl h
        where
          by_task : (o : Option Task) → slice_get d.tasks p ≡ o → IsSomeAnd o (λ task. IsPlainConnection d task i j) → p < length d.tasks
          by_task None there none = absurd none
          by_task (Some task) there plain = slice_get_within d.tasks p task there

      by_process : Decided ((p : ℕ) × IsAt i j p) → Decided (IsStep i j)
      by_process (inl (p, h)) = inl (step_at i j p h)
      by_process (inr none) = inr (λ step. none (step.process, at_step i j step))

  -- ---- connections one after another

  goes_on : (a b c : ℕ) → GoesTo d a b → GoesTo d b c → GoesTo d a c
  goes_on a b c before Itself = before
  goes_on a b c before (Through i j p task goes there plain) =
      Through i j p task (goes_on a b i before goes) there plain

  abbrev Reaches : ℕ → ℕ → Type 0
  Reaches = Joins IsStep (length d.signals)

  reaches_goes : (a b : ℕ) → Reaches a b → GoesTo d a b
  reaches_goes =
      joins_in IsStep (GoesTo d) (λ i j step. Through i j step.process step.task Itself step.there step.plain) goes_on (length d.signals)

  goes_reaches : (a b : ℕ) → GoesTo d a b → (a ≡ b) ⊎ Reaches a b
  goes_reaches a b Itself = inl refl
  goes_reaches a b (Through i j p task goes there plain) =
      let step : IsStep i j = record { process = p; task = task; there = there; plain = plain } in
      let last = at_once IsStep (length d.signals) i j step in
      elim (goes_reaches a i goes) [
        | inl same ↦ inr (subst (λ x. Reaches x j) (sym same) last)
        | inr before ↦
            let one = plain.one_bit in
            inr (joined IsStep (length d.signals) i a j (signal_there d.signals i 0 (omega (arith, one))) before last)
      ]

  -- ---- top inputs

  input_kind : (kind : Kind) → Decided (kind ≡ TopInput)
  input_kind TopInput = inl refl
  input_kind Net = inr (λ e. absurd (cc))
  input_kind Var = inr (λ e. absurd (cc))

  goes_decided : (a b : ℕ) → Decided (GoesTo d a b)
  goes_decided a b =
      by_either (either_of (a ≡ b) (Reaches a b) (cases_eq a b) (joins_decided IsStep step_decided (length d.signals) a b))
    where
      by_either : Decided ((a ≡ b) ⊎ Reaches a b) → Decided (GoesTo d a b)
      by_either (inl (inl same)) = inl (subst (GoesTo d a) same Itself)
      by_either (inl (inr reaches)) = inl (reaches_goes a b reaches)
      by_either (inr none) = inr (λ goes. none (goes_reaches a b goes))

  comes_decided : (s top : ℕ) → Decided (ComesFrom d top s)
  comes_decided s top =
      by_both (both (Has (λ signal. signal.kind ≡ TopInput) d.signals top) (GoesTo d top s) (there_decided (λ (signal : Signal). signal.kind ≡ TopInput) (slice_get d.signals top) (λ signal there. input_kind signal.kind)) (goes_decided top s))
    where
      by_both : Decided (Has (λ signal. signal.kind ≡ TopInput) d.signals top × GoesTo d top s) → Decided (ComesFrom d top s)
      by_both (inl h) = inl (record { input = h.0; goes = h.1 })
      by_both (inr none) = inr (λ h. none (h.input, h.goes))

  input_below : (s top : ℕ) → ComesFrom d top s → top < length d.signals
  input_below s top comes = by_signal (slice_get d.signals top) refl comes.input
    where
      by_signal : (o : Option Signal) → slice_get d.signals top ≡ o → IsSomeAnd o (λ signal. signal.kind ≡ TopInput) → top < length d.signals
      by_signal None there none = absurd none
      by_signal (Some signal) there is = slice_get_within d.signals top signal there

  pub sources_decided : AreSourcesDecided d
  sources_decided s =
      by_top (some_of (λ top. ComesFrom d top s) (comes_decided s) (length d.signals) (input_below s))
    where
      by_top : Decided ((top : ℕ) × ComesFrom d top s) → ((top : ℕ) × ComesFrom d top s) ⊎ ((top : ℕ) → ComesFrom d top s → ⊥)
      by_top (inl h) = inl h
      by_top (inr none) = inr (λ top comes. none (top, comes))
