-- What holds of a bit from what holds of the bits that its process wants, process by process in the order of levels.
use Rattle.std.proofs.Common.{◌≡◌, ◌∙◌, ◌<◌, ◌||◌, ℕ, zero, suc, Bool, true, false, List, Option, None, Some, refl, sym, ap, subst, inl, inr, arith}
use Rattle.std.specs.Prelude.{IsTrue, IsSome, unwrap_or}
use Rattle.std.specs.List.{slice_get}
use Rattle.std.specs.Option.{IsSomeAnd}
use Rattle.std.proofs.lemmas.Bool.{cases_eq, or_left}
use Rattle.rtl_flat.specs.Expression.{Tree}
use Rattle.rtl_flat.specs.Flows.{flow_of, reads}
use Rattle.rtl_flat.specs.Levels.{HasNoEdge, IsArrow, IsLevel, IsLevelIn, IsNode, Then}
use Rattle.rtl_flat.specs.Paths.{MayRead, MayWrite, ReadsOutside}
use Rattle.rtl_flat.specs.PathSets.{Lists, OfProcess, Uses, listed}
use Rattle.rtl_flat.specs.Process.{Assign, Comb, Doing, Edge', Piece, Task}
use Rattle.rtl_flat.specs.Signs.{width_in}
use Rattle.rtl_flat.proofs.Paths.{decided}
use Rattle.event_model.specs.Queue.{doing_at, doing_of, is_input}
use Rattle.rtl_flat.specs.Flats.{Flat, widths}
use Rattle.event_runs.specs.event_laws.Steady.{AreLawful}
use Rattle.net_model.specs.Solution.{IsLasting, IsRegisterBit}
use Rattle.event_runs.proofs.event_laws_proofs.Within.{may_read_outside, outside_inside, reads_inside}
use Rattle.event_runs.proofs.Writers.{of_process, to_process}
use Rattle.net_rest.specs.Rest.{IsFromOutside, IsOthers, IsSolvable}

-- ---- any set of bits

module _ (d : Flat) (level : ℕ → ℕ) (ascends : (p q : ℕ) → IsArrow d.signals d.tasks p q → level p < level q) (P : ℕ → ℕ → Type 0) (step : (p : ℕ) → IsNode d.tasks p → ((q j l : ℕ) → IsArrow d.signals d.tasks q p → OfProcess MayWrite d.signals d.tasks q j l → P j l) → (i k : ℕ) → OfProcess MayWrite d.signals d.tasks p i k → P i k) where
  below : (n p : ℕ) → level p < n → IsNode d.tasks p → (i k : ℕ) → OfProcess MayWrite d.signals d.tasks p i k → P i k
  below zero p under node i k may = absurd (omega (arith, under))
  below (suc n) p under node i k may =
      step p node (λ q j l arrow may'. let before = ascends q p arrow in below n q (omega (arith, before, under)) arrow.«from» j l may') i k may

  -- from what processes that feed a process write
  pub by_arrow : (p : ℕ) → IsNode d.tasks p → (i k : ℕ) → OfProcess MayWrite d.signals d.tasks p i k → P i k
  by_arrow p = below (suc (level p)) p (omega arith)

-- ---- what is read outside

-- a continuous assignment reads all that its expression reads
pub assign_reads : (ws : ℕ → ℕ) (target : List Piece) (e : Tree) (i k : ℕ) → reads ws e i k ≡ true → ReadsOutside (flow_of ws (Assign target e)) i k
assign_reads ws target e i k is =
    (decided (flow_of ws (Assign target e)) i k).outside.0 (or_left (reads ws e i k) _ is)

no_outside :
    (ws : ℕ → ℕ) (o : Option Task) (does : Doing) (i k : ℕ) → doing_of o ≡ Some does →
    IsSomeAnd o (λ task. (l : ℕ) → ReadsOutside (flow_of ws task.does) i l → ⊥) → ReadsOutside (flow_of ws does) i k → ⊥
no_outside ws None does i k is none reads' = none
no_outside ws (Some task) does i k is none reads' =
    let same : does ≡ task.does = cc in
    none k (subst (λ one. ReadsOutside (flow_of ws one) i k) same reads')

uses : (ws : ℕ → ℕ) (o : Option Task) (does : Doing) (i k : ℕ) → doing_of o ≡ Some does → MayRead (flow_of ws does) i k → IsSomeAnd o (λ task. Uses ws task i)
uses ws None does i k is read = absurd (cc)
uses ws (Some task) does i k is read =
    let same : does ≡ task.does = cc in
    record { bit = k; used = inr (inl (subst (λ one. MayRead (flow_of ws one) i k) same read)) }

-- it is no temporary
pub read_lasts : (d : Flat) (p : ℕ) (does : Doing) → doing_at d p ≡ Some does → (i k : ℕ) → ReadsOutside (flow_of (widths d) does) i k → IsLasting d i
read_lasts d p does here i k outside temporary =
    elim (cases_eq p temporary.process) [
      | inl same ↦
          no_outside (width_in d.signals) (slice_get d.tasks temporary.process) does i k (ap (doing_at d) (sym same) ∙ here) temporary.of_process.inside outside
      | inr other ↦
          temporary.of_process.alone p other (uses (width_in d.signals) (slice_get d.tasks p) does i k here (may_read_outside _ i k outside))
    ]

-- and lies inside its signal
pub read_inside : (d : Flat) → AreLawful d → (p : ℕ) (does : Doing) → doing_at d p ≡ Some does → (i k : ℕ) → ReadsOutside (flow_of (widths d) does) i k → k < widths d i
read_inside d lawful p (Assign target e) here i k outside =
    reads_inside (widths d) e i k (alone (reads (widths d) e i k) ((decided (flow_of (widths d) (Assign target e)) i k).reads.1 (may_read_outside _ i k outside)))
  where
    alone : (b : Bool) → (b || (false || false)) ≡ true → b ≡ true
    alone true is = refl
    alone false is = is
read_inside d lawful p (Comb list body) here i k outside = outside_inside d.signals body (lawful p (Comb list body) here).1 i k outside
read_inside d lawful p (Edge' events body) here i k outside = outside_inside d.signals body (lawful p (Edge' events body) here).2 i k outside

-- ---- bits that last

node_at : (d : Flat) (p : ℕ) (does : Doing) → doing_at d p ≡ Some does → HasNoEdge does → IsNode d.tasks p
node_at d p does here no_edge = by_task (slice_get d.tasks p) here
  where
    by_task : (o : Option Task) → doing_of o ≡ Some does → IsSomeAnd o (λ task. HasNoEdge task.does)
    by_task None is = absurd (cc)
    by_task (Some task) is = let same : does ≡ task.does = cc in subst HasNoEdge same no_edge

of_node : (d : Flat) (p : ℕ) (does : Doing) → doing_at d p ≡ Some does → IsNode d.tasks p → HasNoEdge does
of_node d p does here node = by_task (slice_get d.tasks p) here node
  where
    by_task : (o : Option Task) → doing_of o ≡ Some does → IsSomeAnd o (λ task. HasNoEdge task.does) → HasNoEdge does
    by_task None is node' = absurd (cc)
    by_task (Some task) is node' = let same : task.does ≡ does = cc in subst HasNoEdge same node'

lists_at : (d : Flat) (p : ℕ) (does : Doing) → doing_at d p ≡ Some does → (i k : ℕ) → listed (widths d) does i k ≡ true → Lists d.signals d.tasks p i k
lists_at d p does here i k is = by_task (slice_get d.tasks p) here
  where
    by_task : (o : Option Task) → doing_of o ≡ Some does → IsSomeAnd o (λ task. listed (width_in d.signals) task.does i k ≡ true)
    by_task None none = absurd (cc)
    by_task (Some task) some = let same : does ≡ task.does = cc in subst (λ one. listed (width_in d.signals) one i k ≡ true) same is

uses_list : (ws : ℕ → ℕ) (o : Option Task) (does : Doing) (i k : ℕ) → doing_of o ≡ Some does → listed ws does i k ≡ true → IsSomeAnd o (λ task. Uses ws task i)
uses_list ws None does i k is lists = absurd (cc)
uses_list ws (Some task) does i k is lists =
    let same : does ≡ task.does = cc in
    record { bit = k; used = inr (inr (subst (λ one. listed ws one i k ≡ true) same lists)) }

uses_write : (ws : ℕ → ℕ) (o : Option Task) (i k : ℕ) → IsSomeAnd o (λ task. MayWrite (flow_of ws task.does) i k) → IsSomeAnd o (λ task. Uses ws task i)
uses_write ws None i k may = may
uses_write ws (Some task) i k may = record { bit = k; used = inl may }

-- what a process lists and another writes is no temporary
pub listed_lasts : (d : Flat) (p : ℕ) (does : Doing) → doing_at d p ≡ Some does → (i k : ℕ) → listed (widths d) does i k ≡ true → IsOthers d p i k → IsLasting d i
listed_lasts d p does here i k lists others temporary =
    elim (cases_eq p temporary.process) [
      | inl same ↦
          temporary.of_process.alone others.process (λ is. others.other (is ∙ sym same)) (uses_write (width_in d.signals) (slice_get d.tasks others.process) i k others.may)
      | inr other ↦
          temporary.of_process.alone p other (uses_list (width_in d.signals) (slice_get d.tasks p) does i k here lists)
    ]

module _ (d : Flat) (level : ℕ → ℕ) (solvable : IsSolvable d level) (P : ℕ → ℕ → Type 0) (input : (i k : ℕ) → IsTrue (is_input d i) → k < widths d i → P i k) (register : (i k : ℕ) → IsRegisterBit d i k → P i k) (step : (p : ℕ) (does : Doing) → doing_at d p ≡ Some does → HasNoEdge does → ((j l : ℕ) → ReadsOutside (flow_of (widths d) does) j l → P j l) → ((j l : ℕ) → l < widths d j → listed (widths d) does j l ≡ true → IsFromOutside d p j l → P j l) → (i k : ℕ) → MayWrite (flow_of (widths d) does) i k → IsLasting d i → P i k) where
  abbrev Lasts : ℕ → ℕ → Type 0
  Lasts i k = IsLasting d i → P i k

  -- what holds of all that processes write which feed one
  abbrev Before : ℕ → Type 0
  Before p = (q j l : ℕ) → IsArrow d.signals d.tasks q p → OfProcess MayWrite d.signals d.tasks q j l → Lasts j l

  -- a bit that a process reads outside
  wanted :
      (p : ℕ) (does : Doing) → doing_at d p ≡ Some does → IsNode d.tasks p → Before p →
      (j l : ℕ) → ReadsOutside (flow_of (widths d) does) j l → P j l
  wanted p does here node before j l outside =
      let lasts = read_lasts d p does here j l outside in
      let inside = read_inside d solvable.lawful p does here j l outside in
      elim (solvable.sourced j l inside lasts) [
        | inl is ↦ input j l is inside
        | inr (inl is) ↦ register j l is
        | inr (inr computed) ↦
            before computed.process j l
            (record {
              «from» = computed.node;
              to = node;
              signal = j;
              bit = l;
              written = computed.may;
              wanted = inl (to_process ReadsOutside d p j l does here outside);
            })
            computed.may lasts
      ]

  -- a bit that it lists and another process writes
  from_writer :
      (p : ℕ) (does : Doing) → doing_at d p ≡ Some does → IsNode d.tasks p → Before p →
      (j l : ℕ) → listed (widths d) does j l ≡ true → (others : IsOthers d p j l) → IsLasting d j →
      (writer : Doing) → doing_at d others.process ≡ Some writer → MayWrite (flow_of (widths d) writer) j l → P j l
  from_writer p does here node before j l lists others lasts (Edge' events body) there may =
      register j l (record { process = others.process; events = events; body = body; does = there; may = may; lasting = lasts })
  from_writer p does here node before j l lists others lasts (Assign target e) there may =
      before others.process j l
      (record {
        «from» = node_at d others.process (Assign target e) there tt;
        to = node;
        signal = j;
        bit = l;
        written = others.may;
        wanted = inr (others.other, lists_at d p does here j l lists);
      })
      others.may lasts
  from_writer p does here node before j l lists others lasts (Comb list body) there may =
      before others.process j l
      (record {
        «from» = node_at d others.process (Comb list body) there tt;
        to = node;
        signal = j;
        bit = l;
        written = others.may;
        wanted = inr (others.other, lists_at d p does here j l lists);
      })
      others.may lasts

  from_list :
      (p : ℕ) (does : Doing) → doing_at d p ≡ Some does → IsNode d.tasks p → Before p →
      (j l : ℕ) → l < widths d j → listed (widths d) does j l ≡ true → IsFromOutside d p j l → P j l
  from_list p does here node before j l inside lists (inl is) = input j l is inside
  from_list p does here node before j l inside lists (inr others) =
      let (writer, there, may) = of_process MayWrite d others.process j l others.may in
      from_writer p does here node before j l lists others (listed_lasts d p does here j l lists others) writer there may

  one : (p : ℕ) → IsNode d.tasks p → Before p → (i k : ℕ) → OfProcess MayWrite d.signals d.tasks p i k → Lasts i k
  one p node before i k may lasts =
      let (does, here, may') = of_process MayWrite d p i k may in
      step p does here (of_node d p does here node) (wanted p does here node before) (from_list p does here node before) i k may' lasts

  -- all bits that last, by levels
  pub by_level_listed : (i k : ℕ) → k < widths d i → IsLasting d i → P i k
  by_level_listed i k inside lasts =
      elim (solvable.sourced i k inside lasts) [
        | inl is ↦ input i k is inside
        | inr (inl is) ↦ register i k is
        | inr (inr computed) ↦ by_arrow d level solvable.ascends Lasts one computed.process computed.node i k computed.may lasts
      ]

module _ (d : Flat) (level : ℕ → ℕ) (solvable : IsSolvable d level) (P : ℕ → ℕ → Type 0) (input : (i k : ℕ) → IsTrue (is_input d i) → k < widths d i → P i k) (register : (i k : ℕ) → IsRegisterBit d i k → P i k) (step : (p : ℕ) (does : Doing) → doing_at d p ≡ Some does → HasNoEdge does → ((j l : ℕ) → ReadsOutside (flow_of (widths d) does) j l → P j l) → (i k : ℕ) → MayWrite (flow_of (widths d) does) i k → IsLasting d i → P i k) where
  -- the same where no list is asked for
  pub by_level : (i k : ℕ) → k < widths d i → IsLasting d i → P i k
  by_level =
      by_level_listed d level solvable P input register (λ p does here node outside lists. step p does here node outside)

-- ---- levels

module _ (d : Flat) where
  behind :
      (p q : ℕ) → IsArrow d.signals d.tasks p q → (a b : Option ℕ) →
      (IsNode d.tasks p → IsLevelIn (IsArrow d.signals d.tasks) p a) → (IsNode d.tasks q → IsLevelIn (IsArrow d.signals d.tasks) q b) →
      IsSome a → IsSome b → unwrap_or a 0 < unwrap_or b 0
  behind p q arrow None b one other some some' = absurd (cc)
  behind p q arrow (Some m) None one other some some' = absurd (cc)
  behind p q arrow (Some m) (Some n) one other some some' =
      let depth = (one arrow.«from»).1 in
      let most = (other arrow.to).1.most (suc m) depth.start (Then m depth.start p q depth.chain arrow) in
      most

  -- where no process is on a cycle or behind one, each comes after those that feed it
  pub levels_ascend :
      (level : ℕ → Option ℕ) → ((p : ℕ) → IsLevel d.signals d.tasks p (level p)) → ((p : ℕ) → IsNode d.tasks p → IsSome (level p)) →
      (p q : ℕ) → IsArrow d.signals d.tasks p q → unwrap_or (level p) 0 < unwrap_or (level q) 0
  levels_ascend level are some p q arrow =
      behind p q arrow (level p) (level q) (are p).of_node (are q).of_node (some p arrow.«from») (some q arrow.to)
