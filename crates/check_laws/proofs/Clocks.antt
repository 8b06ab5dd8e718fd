-- What clocks and resets without findings are.
use Rattle.std.proofs.Common.{◌≡◌, ℕ, zero, suc, Bool, true, List, [], ◌∷◌, Option, None, Some, refl, sym, ap, subst, inl, inr, arith, ◌⊎◌, length}
use Rattle.std.specs.List.{slice_get}
use Rattle.std.specs.Option.{IsSomeAnd}
use Rattle.std.specs.Prelude.{IsTrue, nat_le, nat_lt, ◌==◌}
use Rattle.std.proofs.lemmas.Bool.{and_from, and_parts, cases_eq, eq-eqb, eqb-true, lt-ltb, false_from_ne_true, ltb-false}
use Rattle.text_ground.specs.declared.text.Spot.{Spot}
use Rattle.rtl_flat.specs.declared.signal.Kind.TheVariants.{TopInput}
use Rattle.rtl_flat.specs.declared.signal.Signal.{Signal}
use Rattle.rtl_flat.specs.Expression.{Tree, Sized}
use Rattle.rtl_flat.specs.Expression as tree
use Rattle.rtl_flat.specs.Process.{Watched, Edge', Task}
use Rattle.rtl_flat.specs.Signs.{Has}
use Rattle.event_model.specs.Queue.{is_input, is_input_kind, is_input_of}
use Rattle.net_model.specs.Control.{IsFromTop, IsPassedOn, IsReached, ReadsAlone}
use Rattle.net_model.specs.Control as control
use Rattle.rtl_rule.specs.Parts.{At, items_of, within}
use Rattle.rtl_flat.specs.Flats.{Flat, widths}
use Rattle.check_unknown.specs.check_chains.Chains.{IsAsyncPair, async_pair_at, has_chain}
use Rattle.check_clocks.specs.Clocks.{IsDerivedClock, IsTwice, derived_clock_at, events_of}
use Rattle.net_model.specs.Gates.{ComesFrom, GoesTo, IsPlainConnection, Itself, Through}
use Rattle.check_laws.specs.Clocks.{AsyncPair, AreSourcesDecided, DerivedClock, DerivedClockOnce}
use Rattle.rtl_rule.proofs.Lists.{Each, each_all}
use Rattle.check_laws.proofs.Sites.{process_refuted, refuted_in, task_of}

-- ---- what comes from a top input is reached from it

-- a signal of one bit is all that its plain name reads
pub reads_alone : (ws : ℕ → ℕ) (signed : Bool) (spot : Spot) (i : ℕ) → ws i ≡ 1 → ReadsAlone ws (Sized 1 signed spot (tree.Whole i)) i
reads_alone ws signed spot i one =
    record {
      bit = 0;
      read = and_from (i == i) _ (eq-eqb i i refl) (and_from (nat_le 0 0) _ refl (and_from (nat_lt 0 (ws i)) _ (lt-ltb 0 (ws i) (omega (arith, one))) (lt-ltb 0 (ws i) (omega (arith, one)))));
      alone = λ j k h. eqb-true j i (and_parts (j == i) _ h).0;
    }

module _ (d : Flat) where
  passed : (task : Task) (i j p : ℕ) → slice_get d.tasks p ≡ Some task → IsPlainConnection d task i j → IsPassedOn d i j
  passed task i j p there plain =
      record {
        process = p;
        value = Sized 1 plain.signed plain.spot (tree.Whole i);
        connection = record { task = task; spot = plain.at; there = there; does = plain.does; outside = plain.outside };
        alone = reads_alone (widths d) plain.signed plain.spot i plain.one_bit;
        one_bit = plain.one_bit;
        port_bit = plain.port_bit;
      }

  pub reached : (top s : ℕ) → GoesTo d top s → IsReached d top s
  reached top s Itself = control.Itself
  reached top s (Through i j p task goes there plain) =
      control.Through i j (reached top i goes) (passed task i j p there plain)

  pub is_top_input : (top : ℕ) → Has (λ signal. signal.kind ≡ TopInput) d.signals top → IsTrue (is_input d top)
  is_top_input top h = by_signal (slice_get d.signals top) h
    where
      by_signal : (o : Option Signal) → IsSomeAnd o (λ signal. signal.kind ≡ TopInput) → is_input_of o ≡ true
      by_signal None none = absurd none
      by_signal (Some signal) is = ap is_input_kind is

  pub from_top : (top s : ℕ) → ComesFrom d top s → IsFromTop d s
  from_top top s comes =
      record { top = top; input = is_top_input top comes.input; reached = reached top s comes.goes }

-- ---- A7

each_from_top : (d : Flat) → AreSourcesDecided d → (site : Watched → At Watched) → ((item : Watched) → (site item).it ≡ item) → (events : List Watched) → Each (λ item. IsDerivedClock d (site item) → ⊥) events → Each (λ item. IsFromTop d item.signal) events
each_from_top d decides site same [] h = tt
each_from_top d decides site same (item ∷ events) h =
    (by_source (decides item.signal), each_from_top d decides site same events h.1)
  where
    by_source : ((top : ℕ) × ComesFrom d top item.signal) ⊎ ((top : ℕ) → ComesFrom d top item.signal → ⊥) → IsFromTop d item.signal
    by_source (inl (top, comes)) = from_top d top item.signal comes
    by_source (inr none) =
        absurd (h.0 (inl (λ top comes. none top (subst (λ one. ComesFrom d top one.signal) (same item) comes))))

pub derived_clock : (d : Flat) → DerivedClock d
derived_clock d decides none p events body is =
    let at = task_of d p (Edge' events body) is in
    let all = refuted_in (IsDerivedClock d) derived_clock_at events_of d none p at.task at.there in
    let own = subst (λ does. Each (λ item. IsDerivedClock d (within (p, at.task) item) → ⊥) (events_of does)) at.is all in
    each_all (λ item. IsFromTop d item.signal) events (each_from_top d decides (within (p, at.task)) (λ item. refl) events own)

pub each_place : {A : Type 0} (P : A → Type 0) (xs : List A) → Each P xs → (m : ℕ) (x : A) → slice_get xs m ≡ Some x → P x
each_place P [] h m x e = absurd (cc)
each_place P (y ∷ xs) h zero x e = let same : y ≡ x = cc in subst P same h.0
each_place P (y ∷ xs) h (suc m) x e = each_place P xs h.1 m x e

pub derived_clock_once : (d : Flat) → DerivedClockOnce d
derived_clock_once d none p events body is m n a b first second top comes comes' =
    let at = task_of d p (Edge' events body) is in
    let all = refuted_in (IsDerivedClock d) derived_clock_at events_of d none p at.task at.there in
    let own = subst (λ does. Each (λ item. IsDerivedClock d (within (p, at.task) item) → ⊥) (events_of does)) at.is all in
    elim (cases_eq m n) [
      | inl same ↦ same
      | inr other ↦
          let twice : IsTwice d events top = record {
            first = m;
            second = n;
            apart = other;
            one = subst (λ o. IsSomeAnd o (λ item. ComesFrom d top item.signal)) (sym first) comes;
            other = subst (λ o. IsSomeAnd o (λ item. ComesFrom d top item.signal)) (sym second) comes';
          } in
          absurd (each_place (λ item. IsDerivedClock d (within (p, at.task) item) → ⊥) events own m a first (inr (top, comes, inl (subst (λ does. IsTwice d (items_of does) top) (sym at.is) twice))))
    ]

-- R3
pub async_pair : (d : Flat) → AsyncPair d
async_pair d none p task there chain is =
    ltb-false 1 (length chain.resets) (false_from_ne_true (nat_lt 1 (length chain.resets)) (λ more. process_refuted (IsAsyncPair d) (async_pair_at d) d none p task there (subst (λ o. has_chain (λ one. nat_lt 1 (length one.resets)) o ≡ true) (sym is) more)))
