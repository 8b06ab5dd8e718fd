-- Where no control input is used as data, who hears them are ports, blocks that wait for edges and latches that they gate.
use Rattle.std.proofs.Common.{◌≡◌, ◌∙◌, ◌<◌, ℕ, zero, suc, Bool, true, false, not, ◌&&◌, List, [], ◌∷◌, ◌++◌, Option, None, Some, length, refl, sym, ap, subst, arith}
use Rattle.std.specs.Prelude.{◌==◌, if◌then◌else◌}
use Rattle.std.specs.List.{cons_option, filter_map, flat_map, slice_get}
use Rattle.std.specs.Option.{IsSomeAnd}
use Rattle.std.proofs.lemmas.Bool.{and_from, and_parts, eq-eqb, eqb-true, false≢true, not-true, not_from_false, or_from, true≢false}
use Rattle.text_ground.specs.declared.text.Spot.{Spot}
use Rattle.rtl_flat.specs.declared.signal.Signal.{Signal}
use Rattle.rtl_flat.specs.Expression.{Tree, Sized}
use Rattle.rtl_flat.specs.Expression as tree
use Rattle.rtl_flat.specs.Flows.{may_select, body_flow, reads}
use Rattle.rtl_flat.specs.Paths.{reads_bit, some}
use Rattle.rtl_flat.specs.PathSets.{items_list, listed}
use Rattle.rtl_flat.specs.Process.{Selection, Piece, Watched, Action, Set, If, Case, Block, Actions, Doing, Assign, Comb, Edge', Task}
use Rattle.rtl_flat.specs.Process as part
use Rattle.rtl_flat.specs.Signs.{Has}
use Rattle.rtl_flat.specs.WellFormed.{has_edge}
use Rattle.check_laws.proofs.event_laws_proofs.Within.{reads_inside}
use Rattle.event_model.specs.Queue.{doing_at, doing_of}
use Rattle.check_laws.specs.event_laws.Steady.{AreLawful}
use Rattle.sign_cycles.specs.event_edges.Synchronous.{IsPort}
use Rattle.net_model.specs.Control.{IsReached, Itself, Through}
use Rattle.net_model.specs.Gates.{GoesTo, InCone, IsControl, IsGateOf, IsPlainConnection}
use Rattle.net_model.specs.Gates as gates
use Rattle.rtl_rule.specs.Parts.{all_of, body_trees, index_of, items_of, labels, has_some, nodes, own_labels, own_reads, own_trees, place_of, read_trees, spot_if, trees, within}
use Rattle.rtl_flat.specs.Flats.{Flat, widths}
use Rattle.check_laws.specs.check_chains.Chains.{chain_of}
use Rattle.check_laws.specs.check_clocks.Clocks.{AreClockAsData, IsClockAsData, but_tests, clock_as_data_at, data_places, data_reads, data_trees, in_instance, is_passing, is_some_place, is_whole, level_items, passes, statement_trees}
use Rattle.check_laws.specs.Expressions.{AreMarked, IsMarked}
use Rattle.check_laws.proofs.Clocks.{reads_alone}
use Rattle.rtl_rule.proofs.Lists.{Each, each_both, each_flat, each_from, each_join, each_left, each_right}
use Rattle.check_laws.proofs.Sites.{signal_refuted, signal_there, task_of}
use Rattle.check_laws.proofs.Statements.{each_of}
use Rattle.check_laws.proofs.Temporaries.{lists_within}
use Rattle.check_clean.proofs.Unread.{IsQuiet, IsUnnamed, Unread, no_select, quiet_actions, unread}

-- ---- places

placed_here : (b : Bool) (spot : Spot) (rest : List Spot) → b ≡ true → is_some_place (cons_option (spot_if b spot) rest) ≡ true
placed_here true spot rest e = refl
placed_here false spot rest e = absurd (false≢true e)

placed_later : (b : Bool) (spot : Spot) (rest : List Spot) → is_some_place rest ≡ true → is_some_place (cons_option (spot_if b spot) rest) ≡ true
placed_later true spot rest e = refl
placed_later false spot rest e = e

none_placed : {A : Type 0} (test : A → Bool) (place : A → Spot) (xs : List A) → (is_some_place (filter_map (λ x. spot_if (test x) (place x)) xs) ≡ true → ⊥) → Each (λ x. test x ≡ true → ⊥) xs
none_placed test place [] h = tt
none_placed test place (x ∷ xs) h =
    let rest = filter_map (λ y. spot_if (test y) (place y)) xs in
    (λ is. h (placed_here (test x) (place x) rest is), none_placed test place xs (λ is. h (placed_later (test x) (place x) rest is)))

place_left : (xs ys : List Spot) → is_some_place xs ≡ true → is_some_place (xs ++ ys) ≡ true
place_left [] ys h = absurd (false≢true h)
place_left (x ∷ xs) ys h = refl

place_right : (xs ys : List Spot) → is_some_place ys ≡ true → is_some_place (xs ++ ys) ≡ true
place_right [] ys h = h
place_right (x ∷ xs) ys h = refl

-- ---- connections of ports

-- an assignment that passes a signal of one bit to a port of one bit
record IsPassing (d : Flat) (instance : ℕ) (target : List Piece) (e : Tree) : Type 0 where
  signal : ℕ
  port : ℕ
  signed : Bool
  spot : Spot
  at : Spot
  whole : target ≡ record { signal = port; selection = part.Whole; spot = at } ∷ []
  copy : e ≡ Sized 1 signed spot (tree.Whole signal)
  one_bit : widths d signal ≡ 1
  port_bit : widths d port ≡ 1
  outside : in_instance instance (slice_get d.signals port) ≡ false

passing : (d : Flat) (instance : ℕ) (target : List Piece) (e : Tree) → passes d instance (Assign target e) ≡ true → IsPassing d instance target e
passing d instance [] e h = absurd (false≢true h)
passing d instance (piece ∷ []) (Sized w s at (tree.Whole i)) h =
    let (most, outside) = and_parts _ (not (in_instance instance (slice_get d.signals piece.signal))) h in
    let (bits, whole) = and_parts _ (is_whole piece.selection) most in
    let (wide, to_bit) = and_parts _ (widths d piece.signal == 1) bits in
    let (one, from_bit) = and_parts (w == 1) (widths d i == 1) wide in
    record {
      signal = i;
      port = piece.signal;
      signed = s;
      spot = at;
      at = piece.spot;
      whole = ap (λ x. record { signal = piece.signal; selection = x; spot = piece.spot } ∷ []) (all_of_it piece.selection whole);
      copy = ap (λ n. Sized n s at (tree.Whole i)) (eqb-true w 1 one);
      one_bit = eqb-true (widths d i) 1 from_bit;
      port_bit = eqb-true (widths d piece.signal) 1 to_bit;
      outside = not-true _ outside;
    }
  where
    all_of_it : (selection : Selection) → is_whole selection ≡ true → selection ≡ part.Whole
    all_of_it part.Whole h' = refl
    all_of_it (part.BitAt low index) h' = absurd (false≢true h')
    all_of_it (part.BitBy low index) h' = absurd (false≢true h')
    all_of_it (part.Part low width) h' = absurd (false≢true h')
passing d instance (piece ∷ []) e h = absurd (false≢true h)
passing d instance (piece ∷ next ∷ others) e h = absurd (false≢true h)

abbrev one_whole : ℕ → Spot → List Piece
one_whole j at = record { signal = j; selection = part.Whole; spot = at } ∷ []

abbrev first_port : List Piece → ℕ
first_port [] = 0
first_port (piece ∷ others) = piece.signal

-- ---- statements

-- the expressions of each statement are among those of the process
module _ (P : Tree → Type 0) where
  abbrev pub OfStatement : Action → Type 0
  OfStatement one = Each P (statement_trees one)

  joined_of : (all : List Action) → Each P (flat_map own_trees all) → Each P (flat_map own_labels all) → Each OfStatement all
  joined_of [] h k = tt
  joined_of (one ∷ all) h k = (
    each_join P (own_trees one) (own_labels one) (each_left P (own_trees one) (flat_map own_trees all) h) (each_left P (own_labels one) (flat_map own_labels all) k),
    joined_of all (each_right P (own_trees one) (flat_map own_trees all) h) (each_right P (own_labels one) (flat_map own_labels all) k),
  )

  pub comb_statements : (list : Option (List Watched)) (body : Actions) → Each P (trees (Comb list body)) → Each P (labels (Comb list body)) → Each OfStatement (all_of body)
  comb_statements list body h k =
      joined_of (all_of body) (each_right P (flat_map (λ (item : Watched). index_of item.selection) (items_of (Comb list body))) (body_trees body) h) k

  pub edge_statements : (events : List Watched) (body : Actions) → Each P (trees (Edge' events body)) → Each P (labels (Edge' events body)) → Each OfStatement (all_of body)
  edge_statements events body h k =
      joined_of (all_of body) (each_right P (flat_map (λ (item : Watched). index_of item.selection) events) (body_trees body) h) k

quiet_body : (ws : ℕ → ℕ) (i k : ℕ) (body : Actions) → Each (IsQuiet ws i k) (all_of body) → some (reads_bit i k) (body_flow ws body) ≡ false
quiet_body ws i k body h =
    quiet_actions ws i k body (each_of (IsQuiet ws i k) (IsQuiet ws i k) (λ b. tt) (λ a q. q) body h)

pub quiet_statements : (ws : ℕ → ℕ) (i k : ℕ) (body : Actions) → Each (OfStatement (Unread ws i k)) (all_of body) → some (reads_bit i k) (body_flow ws body) ≡ false
quiet_statements = quiet_body

-- unnamed and marked expressions are unread
unread_all : (ws : ℕ → ℕ) (i : ℕ) (es : List Tree) → Each IsMarked es → Each (IsUnnamed ws i) (flat_map nodes es) → (k : ℕ) → Each (Unread ws i k) es
unread_all ws i es marked h k =
    each_both IsMarked (λ e. Each (IsUnnamed ws i) (nodes e)) (Unread ws i k) (λ e m q. unread ws i e m q k) es marked (each_flat (IsUnnamed ws i) nodes es h)

-- ---- latches

-- only a block without edges is one
abbrev pub IsNoComb : Doing → Type 0
IsNoComb (Assign target e) = Unit {0}
IsNoComb (Comb list body) = ⊥
IsNoComb (Edge' events body) = Unit {0}

pub no_gate : {d : Flat} (p s : ℕ) (does : Doing) → doing_at d p ≡ Some does → IsNoComb does → IsGateOf d p s → ⊥
no_gate p s (Assign target e) is none gate = let latch = gate.admitted.latch.does in absurd (cc)
no_gate p s (Comb list body) is none gate = none
no_gate p s (Edge' events body) is none gate = let latch = gate.admitted.latch.does in absurd (cc)

-- ---- no finding

module _ (d : Flat) (lawful : AreLawful d) (marked : AreMarked d) (none : AreClockAsData (InCone d) d []) where
  -- a signal of the cone is there, and the process isn't a latch of which it is the gate
  not_data : (p : ℕ) (task : Task) → slice_get d.tasks p ≡ Some task → (i : ℕ) → InCone d i → i < length d.signals → (IsGateOf d p i → ⊥) → is_some_place (data_places d (within (p, task) i)) ≡ true → ⊥
  not_data p task there i cone below free places =
      signal_refuted (IsClockAsData (InCone d) d) (clock_as_data_at d) d none p task there i below (record { in_cone = cone; not_gate = free; as_data = places })

  module _ (p : ℕ) (task : Task) (there : slice_get d.tasks p ≡ Some task) (i : ℕ) (cone : InCone d i) (below : i < length d.signals) (free : IsGateOf d p i → ⊥) where
    pub no_level : Each (λ (item : Watched). (not (has_edge item.edge) && has_some (widths d) (may_select (widths d) item.signal item.selection) i) ≡ true → ⊥) (items_of task.does)
    no_level =
        none_placed (λ (item : Watched). not (has_edge item.edge) && has_some (widths d) (may_select (widths d) item.signal item.selection) i) (λ item. item.spot) (items_of task.does)
        (λ is. not_data p task there i cone below free (place_left (level_items d i task.does) (data_reads d i task) is))

    pub unnamed_data : Each (IsUnnamed (widths d) i) (flat_map nodes (data_trees d task))
    unnamed_data =
        none_placed (λ node. has_some (widths d) (own_reads (widths d) node) i) (λ node. place_of task.spot node) (flat_map nodes (data_trees d task))
        (λ is. not_data p task there i cone below free (place_right (level_items d i task.does) (data_reads d i task) is))

    -- the expressions of a process that passes nothing on and has no chain
    pub plain_unread : is_passing d task ≡ false → chain_of d task.does ≡ None → (k : ℕ) → Each (Unread (widths d) i k) (read_trees task.does ++ labels task.does)
    plain_unread passes_not no_chain k =
        unread_all (widths d) i (read_trees task.does ++ labels task.does)
        (each_join IsMarked (read_trees task.does) (labels task.does) (each_right IsMarked (flat_map (λ (item : Watched). index_of item.selection) (items_of task.does)) (read_trees task.does) (each_from IsMarked (trees task.does) (marked p task there).0)) (each_from IsMarked (labels task.does) (marked p task there).1))
        (subst (λ es. Each (IsUnnamed (widths d) i) (flat_map nodes es)) same unnamed_data) k
      where
        same : data_trees d task ≡ read_trees task.does ++ labels task.does
        same =
            ap (λ b. if b then [] else but_tests (chain_of d task.does) (read_trees task.does ++ labels task.does)) passes_not
            ∙ ap (λ o. but_tests o (read_trees task.does ++ labels task.does)) no_chain

  -- ---- assignments

  outside_of : (instance i : ℕ) → i < length d.signals → in_instance instance (slice_get d.signals i) ≡ false → Has (λ signal. signal.instance ≡ instance → ⊥) d.signals i
  outside_of instance i below h = by_signal (slice_get d.signals i) (there_some d.signals i below) h
    where
      by_signal : (o : Option Signal) → (o ≡ None → ⊥) → in_instance instance o ≡ false → IsSomeAnd o (λ signal. signal.instance ≡ instance → ⊥)
      by_signal None some h' = absurd (some refl)
      by_signal (Some signal) some h' = λ same. true≢false (sym (eq-eqb signal.instance instance same) ∙ h')

      there_some : (xs : List Signal) (n : ℕ) → n < length xs → slice_get xs n ≡ None → ⊥
      there_some [] n inside e = absurd (omega (arith, inside))
      there_some (x ∷ xs) zero inside e = absurd (cc)
      there_some (x ∷ xs) (suc n) inside e = there_some xs n (omega (arith, inside)) e

  -- an assignment that reads a bit of the cone passes its signal to a port
  passing_at : (p : ℕ) (task : Task) → slice_get d.tasks p ≡ Some task → (target : List Piece) (e : Tree) → task.does ≡ Assign target e → (i k : ℕ) → InCone d i → reads (widths d) e i k ≡ true → (passed : IsPassing d task.instance target e) × (passed.signal ≡ i)
  passing_at p task there target e does i k cone read =
      by_passing (is_passing d task) refl
    where
      below : i < length d.signals
      below = signal_there d.signals i k (reads_inside (widths d) e i k read)

      by_passing : (b : Bool) → is_passing d task ≡ b → (passed : IsPassing d task.instance target e) × (passed.signal ≡ i)
      by_passing true is =
          let passed = passing d task.instance target e (sym (ap (passes d task.instance) does) ∙ is) in
          let here : reads (widths d) (Sized 1 passed.signed passed.spot (tree.Whole passed.signal)) i k ≡ true = subst (λ x. reads (widths d) x i k ≡ true) passed.copy read in
          (passed, sym (eqb-true i passed.signal (and_parts (i == passed.signal) _ here).0))
      by_passing false isnt =
          let all = plain_unread p task there i cone below (no_gate p i (Assign target e) (ap doing_of there ∙ ap Some does) tt) isnt (ap (chain_of d) does) k in
          let own = subst (λ (one : Doing). Each (Unread (widths d) i k) (read_trees one ++ labels one)) does all in
          absurd (true≢false (sym read ∙ own.0))

  link_of : (p : ℕ) (task : Task) → slice_get d.tasks p ≡ Some task → (target : List Piece) (e : Tree) → task.does ≡ Assign target e → (passed : IsPassing d task.instance target e) → IsPlainConnection d task passed.signal passed.port
  link_of p task there target e does passed =
      record {
        signed = passed.signed;
        spot = passed.spot;
        at = passed.at;
        does = does ∙ ap (λ t. Assign t e) passed.whole ∙ ap (λ x. Assign (record { signal = passed.port; selection = part.Whole; spot = passed.at } ∷ []) x) passed.copy;
        outside = outside_of task.instance passed.port (signal_there d.signals passed.port 0 (let one = passed.port_bit in omega (arith, one))) passed.outside;
        one_bit = passed.one_bit;
        port_bit = passed.port_bit;
      }

  -- ---- who hears

  abbrev NoBit : ℕ → Watched → Type 0
  NoBit i item =
      has_some (widths d) (may_select (widths d) item.signal item.selection) i ≡ true → ⊥

  items_other : (items : List Watched) (i : ℕ) → Each (NoBit i) items → (k : ℕ) → items_list (widths d) items i k ≡ false
  items_other [] i h k = refl
  items_other (item ∷ items) i h k =
      or_from _ _ (no_select (widths d) i item.signal item.selection h.0 k) (items_other items i h.1 k)

  -- assignments are ports to which it goes on
  pub heard_port : (p : ℕ) (target : List Piece) (e : Tree) → doing_at d p ≡ Some (Assign target e) → (i k : ℕ) → InCone d i → reads (widths d) e i k ≡ true → IsPort d target e i
  heard_port p target e is i k cone read =
      let at = task_of d p (Assign target e) is in
      let (passed, same) = passing_at p at.task at.there target e at.is i k cone read in
      let plain = link_of p at.task at.there target e at.is passed in
      subst (IsPort d target e) same (record {
        port = passed.port;
        link = record {
          signed = passed.signed;
          spot = passed.spot;
          target_spot = passed.at;
          whole = passed.whole;
          copy = passed.copy;
          one_bit = passed.one_bit;
          target_bit = passed.port_bit;
        };
        passed = record {
          process = p;
          value = Sized 1 plain.signed plain.spot (tree.Whole passed.signal);
          connection = record { task = at.task; spot = plain.at; there = at.there; does = plain.does; outside = plain.outside };
          alone = reads_alone (widths d) plain.signed plain.spot passed.signal passed.one_bit;
          one_bit = passed.one_bit;
          port_bit = passed.port_bit;
        };
      })

  -- bodies without edges don't list it, but for latches of which it is the gate
  pub unlisted : (p : ℕ) (list : Option (List Watched)) (body : Actions) → doing_at d p ≡ Some (Comb list body) → (i k : ℕ) → InCone d i → (IsGateOf d p i → ⊥) → listed (widths d) (Comb list body) i k ≡ true → ⊥
  unlisted p None body is i k cone free reads' =
      let at = task_of d p (Comb None body) is in
      let below = signal_there d.signals i k (lists_within d lawful p (Comb None body) is i k reads') in
      let all = plain_unread p at.task at.there i cone below free (ap (passes d at.task.instance) at.is) (ap (chain_of d) at.is) k in
      let own = subst (λ (one : Doing). Each (Unread (widths d) i k) (read_trees one ++ labels one)) at.is all in
      let quiet = quiet_body (widths d) i k body (comb_statements (Unread (widths d) i k) None body (each_left (Unread (widths d) i k) (read_trees (Comb None body)) (labels (Comb None body)) own) (each_right (Unread (widths d) i k) (read_trees (Comb None body)) (labels (Comb None body)) own)) in
      true≢false (sym reads' ∙ quiet)
  unlisted p (Some items) body is i k cone free lists' =
      let at = task_of d p (Comb (Some items) body) is in
      let below = signal_there d.signals i k (lists_within d lawful p (Comb (Some items) body) is i k lists') in
      let levels = subst (λ (one : Doing). Each (λ (item : Watched). (not (has_edge item.edge) && has_some (widths d) (may_select (widths d) item.signal item.selection) i) ≡ true → ⊥) (items_of one)) at.is (no_level p at.task at.there i cone below free) in
      let edgeless = each_from (λ (item : Watched). has_edge item.edge ≡ false) items (lawful p (Comb (Some items) body) is).0.1 in
      let others = each_both (λ (item : Watched). (not (has_edge item.edge) && has_some (widths d) (may_select (widths d) item.signal item.selection) i) ≡ true → ⊥) (λ item. has_edge item.edge ≡ false) (NoBit i) (λ item q e some. q (and_from _ _ (not_from_false _ e) some)) items levels edgeless in
      true≢false (sym lists' ∙ items_other items i others k)

  -- ---- what is reached from a control input comes from it by plain connections

  pub goes : (c : ℕ) → IsControl d c → (i : ℕ) → IsReached d c i → GoesTo d c i
  goes c control i Itself = gates.Itself
  goes c control i (Through j k reached on) =
      let connection = on.connection in
      let cone : InCone d j = record { control = c; is_control = control; reached = reached } in
      let (passed, same) = passing_at on.process connection.task connection.there (record { signal = k; selection = part.Whole; spot = connection.spot } ∷ []) on.value connection.does j on.alone.bit cone on.alone.read in
      let plain = link_of on.process connection.task connection.there (record { signal = k; selection = part.Whole; spot = connection.spot } ∷ []) on.value connection.does passed in
      let port : passed.port ≡ k = sym (same_port k passed.port connection.spot passed.at passed.whole) in
      gates.Through j k on.process connection.task (goes c control j reached) connection.there
      (subst (λ x. IsPlainConnection d connection.task x k) same (subst (IsPlainConnection d connection.task passed.signal) port plain))
    where
      same_port : (a b : ℕ) (at at' : Spot) → one_whole a at ≡ one_whole b at' → a ≡ b
      same_port a b at at' e = ap first_port e
