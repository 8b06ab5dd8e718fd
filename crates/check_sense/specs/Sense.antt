-- What is wrong with sensitivity lists (IEEE 1364-2001 section 9.7, IEEE 1364.1-2002 section 5.1).
-- Worked examples: proofs/Example.antt, crates/tests_rows/stdin.
use Rattle.std.specs.Prelude.{ℕ, ◌≡◌, ◌==◌, Bool, true, false, not, ◌&&◌, ◌||◌, List, ◌++◌, Option, Some, None}
use Rattle.std.specs.List.{enumerate_from, find, list_any}
use Rattle.rtl_flat.specs.declared.expr.SigId.{SigId}
use Rattle.rtl_flat.specs.declared.signal.Signal.{Signal}
use Rattle.rtl_flat.specs.Flows.{body_flow}
use Rattle.rtl_flat.specs.PathSets.{items_list, listed}
use Rattle.rtl_flat.specs.Paths.{reads_outside}
use Rattle.rtl_flat.specs.Process.{Watched, Doing, Comb, Edge', Task}
use Rattle.rtl_flat.specs.WellFormed.{has_edge}
use Rattle.event_model.specs.Queue.{is_input_kind}
use Rattle.rtl_rule.specs.declared.finding.Finding.{Finding}
use Rattle.rtl_rule.specs.declared.rule.Rule.TheVariants.{SenseMissing, NeverWakes, MixedEdges}
use Rattle.rtl_rule.specs.Order.{ranked}
use Rattle.rtl_rule.specs.Parts.{At, signal_sites, process_sites, has_some, first_written, written, number, found}
use Rattle.rtl_flat.specs.Flats.{Flat, widths}
use Rattle.rtl_rule.specs.Sites.{AreFindings}

-- ---- S1

-- whether a body with a written list reads a bit of a signal, before it has written it, that the list hasn't
abbrev pub misses : Flat → Doing → ℕ → Bool
misses d (Comb (Some items) body) s =
    has_some (widths d) (λ i k. reads_outside (body_flow (widths d) body) i k && not (items_list (widths d) items i k)) s
misses d _ s = false

abbrev pub IsSenseMissing : Flat → At ℕ → Type 0
IsSenseMissing d site = misses d site.task.does site.it ≡ true

abbrev pub sense_missing_at : At ℕ → Finding
sense_missing_at site = found SenseMissing site (number site.it)

abbrev pub AreSenseMissing : Flat → List Finding → Type 0
AreSenseMissing d = AreFindings (IsSenseMissing d) sense_missing_at (signal_sites d)

-- ---- S2

-- whether a process other than that with a number may write a bit
abbrev pub another_writes : Flat → ℕ → ℕ → ℕ → Bool
another_writes d p s k =
    list_any (λ (one : ℕ × Task). not (one.0 == p) && written d one.1.does s k) (enumerate_from 0 d.tasks)

-- whether a body with a level list lists a bit of a top input, or one that another process may write
abbrev pub can_wake : Flat → ℕ → Doing → Bool
can_wake d p does =
    list_any (λ (one : ℕ × Signal). has_some (widths d) (λ s k. listed (widths d) does s k && (is_input_kind one.1.kind || another_writes d p s k)) one.0) (enumerate_from 0 d.signals)

abbrev pub never_wakes : Flat → ℕ → Doing → Bool
never_wakes d p (Comb list body) = not (can_wake d p (Comb list body))
never_wakes d p _ = false

abbrev pub IsNeverWakes : Flat → At Doing → Type 0
IsNeverWakes d site = never_wakes d site.process site.it ≡ true

abbrev pub never_wakes_at : Flat → At Doing → Finding
never_wakes_at d site = found NeverWakes site (first_written d site)

abbrev pub AreNeverWakes : Flat → List Finding → Type 0
AreNeverWakes d = AreFindings (IsNeverWakes d) (never_wakes_at d) (process_sites d)

-- ---- S3

-- the first item without an edge, in a list that has one with an edge
abbrev pub first_level : Doing → Option Watched
first_level (Edge' events body) = find (λ item. not (has_edge item.edge)) events
first_level _ = None

abbrev pub has_item : Option Watched → Bool
has_item None = false
has_item (Some item) = true

abbrev pub signal_of : Option Watched → Option SigId
signal_of None = None
signal_of (Some item) = number item.signal

abbrev pub IsMixedEdges : At Doing → Type 0
IsMixedEdges site = has_item (first_level site.it) ≡ true

abbrev pub mixed_edges_at : At Doing → Finding
mixed_edges_at site = found MixedEdges site (signal_of (first_level site.it))

abbrev pub AreMixedEdges : Flat → List Finding → Type 0
AreMixedEdges d = AreFindings IsMixedEdges mixed_edges_at (process_sites d)

-- ---- all of them

-- whether these are all findings about sensitivity lists, in their order
pub record AreSenseFindings (d : Flat) (findings : List Finding) : Type 0 where
  pub missing : List Finding
  pub never : List Finding
  pub mixed : List Finding
  pub are_missing : AreSenseMissing d missing
  pub are_never : AreNeverWakes d never
  pub are_mixed : AreMixedEdges d mixed
  pub in_order : findings ≡ ranked (missing ++ never ++ mixed)
