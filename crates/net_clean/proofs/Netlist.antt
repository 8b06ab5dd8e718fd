-- A design without findings of the first grade has a netlist.
use Rattle.std.proofs.Common.{◌≡◌, ◌∙◌, ℕ, zero, suc, sym, List, [], ◌∷◌, Option, None, Some, refl, inl}
use Rattle.std.proofs.lemmas.Bool.{false≢true}
use Rattle.std.specs.List.{slice_get}
use Rattle.std.specs.Option.{IsSomeAnd}
use Rattle.rtl_bits.specs.declared.Bit.{Bit}
use Rattle.rtl_flat.specs.Levels.{Chain, Here, Then, IsArrow, IsBehindCycle}
use Rattle.rtl_flat.specs.Process.{Task}
use Rattle.rtl_flat.specs.Flats.{Flat, Parts}
use Rattle.rtl_rule.specs.declared.rule.Rule.{Rule}
use Rattle.rtl_rule.specs.declared.rule.Rule.TheVariants.{MixedEdges, SeveralDrivers, DerivedClock, ResetShape, ResetPolarity, ResetValue}
use Rattle.rtl_rule.specs.Parts.{within}
use Rattle.check_all.specs.check_sense.Sense.{IsMixedEdges, mixed_edges_at}
use Rattle.check_all.specs.check_assign.Assigned.{IsSeveralDrivers, several_drivers_at}
use Rattle.check_laws.specs.check_chains.Chains.{IsResetPolarity, IsResetShape, IsResetValue, reset_polarity_at, reset_shape_at, reset_value_at}
use Rattle.check_laws.specs.check_clocks.Clocks.{IsDerivedClock, derived_clock_at, events_of}
use Rattle.check_laws.proofs.Designs.{comb_loop}
use Rattle.rtl_rule.proofs.Lists.{Each}
use Rattle.check_laws.proofs.Sites.{process_refuted, refuted_in, signal_refuted}
use Rattle.netlist_eval.specs.net_list.declared.fault.InferFault.{InferFault}
use Rattle.netlist_eval.specs.net_list.declared.fault.InferFault.TheVariants.{Memory, Shape}
use Rattle.netlist_eval.specs.net_list.Failing.{IsFirst}
use Rattle.netlist_eval.specs.net_list.Faults.{AreAlone, AreFormed, IsContended, IsFault, IsShapeless}
use Rattle.netlist_eval.specs.net_order.declared.order.Ranking.{Ranking}
use Rattle.netlist_eval.specs.net_order.declared.order.Ranking.TheVariants.{Cyclic, Order}
use Rattle.netlist_eval.specs.net_order.Order.{IsCyclic, IsRanking}
use Rattle.netlist_eval.specs.net_solve.Feeds.{IsFeed}
use Rattle.netlist_eval.specs.declared.fault.NetFault.{NetFault}
use Rattle.netlist_eval.specs.declared.fault.NetFault.TheVariants as net_fault
use Rattle.netlist_eval.specs.Steps.{IsFault as IsNetFault}
use Rattle.net_start.specs.Start.{AreKnown}
use Rattle.net_clean.specs.Netlist.{HardwareByRules, HasNetlist, IsOrdered}
use Rattle.check_all.specs.Rules.{HasNoFinding}
use Rattle.check_all.proofs.Without.{no_finding}

-- ---- faults

none_at : {A : Type 0} (P : A → Type 0) (xs : List A) → Each (λ x. P x → ⊥) xs → (n : ℕ) → IsSomeAnd (slice_get xs n) P → ⊥
none_at P [] none n found = found
none_at P (x ∷ xs) none zero found = none.0 found
none_at P (x ∷ xs) none (suc n) found = none_at P xs none.1 n found

module _ (d : Flat) (none : HasNoFinding d) where
  no_fault : (p : ℕ) (task : Task) → slice_get d.tasks p ≡ Some task → (rule : Rule) → IsFault d p task rule → ⊥
  no_fault p task there MixedEdges fault =
      process_refuted IsMixedEdges mixed_edges_at d none.s3 p task there fault
  no_fault p task there SeveralDrivers (s, below, several) =
      signal_refuted (IsSeveralDrivers d) several_drivers_at d none.a4 p task there s below several
  no_fault p task there DerivedClock (n, derived) =
      let each = refuted_in (IsDerivedClock d) derived_clock_at events_of d none.a7 p task there in
      none_at (λ item. IsDerivedClock d (within (p, task) item)) (events_of task.does) each n derived
  no_fault p task there ResetShape fault =
      process_refuted (IsResetShape d) (reset_shape_at d) d none.r1 p task there fault
  no_fault p task there ResetPolarity fault =
      process_refuted (IsResetPolarity d) (reset_polarity_at d) d none.r2 p task there fault
  no_fault p task there ResetValue fault =
      process_refuted (IsResetValue d) (reset_value_at d) d none.r4 p task there fault
  no_fault p task there _ fault = absurd fault

  none_has : (p : ℕ) (o : Option Task) → slice_get d.tasks p ≡ o → (rule : Rule) → IsSomeAnd o (λ task. IsFault d p task rule) → ⊥
  none_has p None there rule fault = fault
  none_has p (Some task) there rule fault = no_fault p task there rule fault

  formed : AreFormed d
  formed p shapeless = none_has p (slice_get d.tasks p) refl shapeless.rule shapeless.fault

  alone : AreAlone d
  alone p contended = none_has p (slice_get d.tasks p) refl SeveralDrivers contended.fault

-- ---- cycles

-- one process feeds another only along an arrow of the level graph
module _ (d : Flat) where
  arrow : (p q : ℕ) → IsFeed d.signals d.tasks p q → IsArrow d.signals d.tasks p q
  arrow p q feed =
      record {
        «from» = feed.«from»;
        to = feed.to;
        signal = feed.signal;
        bit = feed.bit;
        written = feed.written;
        wanted = inl feed.read;
      }

  arrows : (n p q : ℕ) → Chain (IsFeed d.signals d.tasks) n p q → Chain (IsArrow d.signals d.tasks) n p q
  arrows _ _ _ (Here p) = Here p
  arrows _ _ _ (Then n p q r chain feed) = Then n p q r (arrows n p q chain) (arrow q r feed)

  behind : (p : ℕ) → IsBehindCycle (IsFeed d.signals d.tasks) p → IsBehindCycle (IsArrow d.signals d.tasks) p
  behind p by_feeds =
      record {
        node = by_feeds.node;
        round = by_feeds.round;
        cycle = arrows (suc by_feeds.round) by_feeds.node by_feeds.node by_feeds.cycle;
        length = by_feeds.length;
        chain = arrows by_feeds.length by_feeds.node p by_feeds.chain;
      }

  no_cycle : HasNoFinding d → (s : ℕ) → IsCyclic d s → ⊥
  no_cycle none s cyclic =
      comb_loop d none.a6 cyclic.process (behind cyclic.process cyclic.behind)

-- ---- the hardware

has_netlist : (d : Flat) → HasNoFinding d → HasNetlist d
has_netlist d none = record { formed = formed d none; alone = alone d none; no_cycle = no_cycle d none }

module _ (d : Flat) (netlist : HasNetlist d) where
  registers : (fault : InferFault) → IsFirst (IsShapeless d) fault → fault ≡ Memory
  registers (Shape p) least = absurd (netlist.formed p.0 least.holds)
  registers Memory least = refl

  blocks : (fault : InferFault) → IsFirst (IsContended d) fault → fault ≡ Memory
  blocks (Shape p) least = absurd (netlist.alone p.0 least.holds)
  blocks Memory least = refl

  ordered : (ranking : Ranking) → IsRanking d ranking → IsOrdered ranking
  ordered (Order order) is = record { order = order; is = refl }
  ordered (Cyclic signal) least = absurd (netlist.no_cycle signal.0 least.cyclic)

  begins : (values : List (List Bit)) → AreKnown values → (found : NetFault) → IsNetFault d values found → found ≡ net_fault.Memory
  begins values known (net_fault.Cyclic signal) is = absurd (netlist.no_cycle signal.0 is.cyclic)
  begins values known (net_fault.NotKnown at) is =
      absurd (false≢true (sym (known at is.1.there) ∙ is.1.unknown))
  begins values known net_fault.Memory is = refl

pub hardware : (d : Parts) → HardwareByRules d
hardware d findings are clean =
    let netlist = has_netlist d.flat (no_finding d findings are clean) in
    record {
      netlist = netlist;
      registers = registers d.flat netlist;
      blocks = blocks d.flat netlist;
      ordered = ordered d.flat netlist;
      begins = begins d.flat netlist;
    }
