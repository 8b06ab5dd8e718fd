-- No process hears a signal without bits, as one that isn't there.
use Rattle.std.proofs.Common.{ℕ, ◌≡◌, ◌∙◌, ◌+◌, arith, Bool, true, false, ◌&&◌, ◌||◌, List, [], ◌∷◌, Option, None, Some, refl, sym, ap, inl, inr}
use Rattle.std.specs.Prelude.{◌==◌, nat_lt, nat_le, ℤ, ⊤}
use Rattle.std.specs.List.{list_any}
use Rattle.std.proofs.lemmas.Bool.{cases_Bool, eqb-true, le-ltb}
use Rattle.rtl_bits.specs.declared.Bit.{Bit}
use Rattle.rtl_bits.specs.declared.Edge.TheVariants.{No}
use Rattle.rtl_flat.specs.Expression.{Tree, Sized, Literal, Turned, Joined, Compared, Linked, Folded, Shifted, Chosen, Empty, Beside, Repeated, Recast}
use Rattle.rtl_flat.specs.Expression as tree
use Rattle.rtl_flat.specs.Process.{Selection, Piece, Watched, Action, Set, If, Case, Block, Actions, Done, Then, Otherwise, Without, With, Branches, NoBranch, Branch, Doing, Assign, Comb, Edge'}
use Rattle.rtl_flat.specs.Process as part
use Rattle.rtl_flat.specs.Paths.{Flow, End, reads_bit, some, some_way}
use Rattle.rtl_flat.specs.Flows.{span, bit_at, is_place, reads, reads_all, may_select, index_reads, target_reads, labels_of, is_complete, action_then, actions_then, other_flow, way_past, ways}
use Rattle.event_model.specs.Queue.{happens, item_hears, listens}
use Rattle.event_tables.specs.Hearing.{listens_of}

-- two tests that fail
neither : (a b : Bool) → a ≡ false → b ≡ false → (a || b) ≡ false
neither true b e f = e
neither false b e f = f

not_right : (a b : Bool) → b ≡ false → (a && b) ≡ false
not_right true b e = e
not_right false b e = refl

not_left : (a b : Bool) → a ≡ false → (a && b) ≡ false
not_left a b e = ap (λ t. t && b) e

module _ (ws : ℕ → ℕ) (s k : ℕ) (none : ws s ≡ 0) where
  no_place : (signal : ℕ) → (s == signal) ≡ true → nat_lt k (ws signal) ≡ false
  no_place signal e =
      let zero' : ws signal ≡ 0 = ap ws (sym (eqb-true s signal e)) ∙ none in
      le-ltb k (ws signal) (omega arith)

  no_span : (signal low high : ℕ) → span ws signal low high s k ≡ false
  no_span signal low high =
      elim (cases_Bool (s == signal)) [
        | inl e ↦ not_right (s == signal) (nat_le low k && (nat_lt k high && nat_lt k (ws signal))) (not_right (nat_le low k) (nat_lt k high && nat_lt k (ws signal)) (not_right (nat_lt k high) (nat_lt k (ws signal)) (no_place signal e)))
        | inr e ↦ not_left (s == signal) (nat_le low k && (nat_lt k high && nat_lt k (ws signal))) e
      ]

  no_bit_at : (signal low : ℕ) (index : ℤ) → bit_at ws signal low index s k ≡ false
  no_bit_at signal low index =
      elim (cases_Bool (s == signal)) [
        | inl e ↦ not_right (s == signal) (nat_lt k (ws signal) && is_place low index k) (not_left (nat_lt k (ws signal)) (is_place low index k) (no_place signal e))
        | inr e ↦ not_left (s == signal) (nat_lt k (ws signal) && is_place low index k) e
      ]

  no_read : (e : Tree) → reads ws e s k ≡ false
  no_read (Sized width signed spot e) = no_read e
  no_read (Literal bits) = refl
  no_read (tree.Whole signal) = no_span signal 0 (ws signal)
  no_read (tree.BitAt signal low index) = no_bit_at signal low index
  no_read (tree.BitBy signal low signed index) =
      neither (reads ws index s k) (span ws signal 0 (ws signal) s k) (no_read index) (no_span signal 0 (ws signal))
  no_read (tree.Part signal low width) = no_span signal low (low + width)
  no_read (Turned operator a) = no_read a
  no_read (Joined operator signed a b) = neither (reads ws a s k) (reads ws b s k) (no_read a) (no_read b)
  no_read (Compared operator signed a b) =
      neither (reads ws a s k) (reads ws b s k) (no_read a) (no_read b)
  no_read (Linked operator a b) = neither (reads ws a s k) (reads ws b s k) (no_read a) (no_read b)
  no_read (Folded operator a) = no_read a
  no_read (Shifted operator signed a amount) =
      neither (reads ws a s k) (reads ws amount s k) (no_read a) (no_read amount)
  no_read (Chosen c a b) =
      neither (reads ws c s k) (reads ws a s k || reads ws b s k) (no_read c) (neither (reads ws a s k) (reads ws b s k) (no_read a) (no_read b))
  no_read Empty = refl
  no_read (Beside a others) =
      neither (reads ws a s k) (reads ws others s k) (no_read a) (no_read others)
  no_read (Repeated times a) = no_read a
  no_read (Recast a) = no_read a

  no_reads : (es : List Tree) → reads_all ws es s k ≡ false
  no_reads [] = refl
  no_reads (e ∷ es) = neither (reads ws e s k) (reads_all ws es s k) (no_read e) (no_reads es)

  no_selection : (signal : ℕ) (selection : Selection) → may_select ws signal selection s k ≡ false
  no_selection signal part.Whole = no_span signal 0 (ws signal)
  no_selection signal (part.BitAt low index) = no_bit_at signal low index
  no_selection signal (part.BitBy low index) = no_span signal 0 (ws signal)
  no_selection signal (part.Part low width) = no_span signal low (low + width)

  no_index : (selection : Selection) → index_reads ws selection s k ≡ false
  no_index part.Whole = refl
  no_index (part.BitAt low index) = refl
  no_index (part.BitBy low index) = no_read index
  no_index (part.Part low width) = refl

  no_target : (target : List Piece) → target_reads ws target s k ≡ false
  no_target [] = refl
  no_target (piece ∷ others) =
      neither (index_reads ws piece.selection s k) (target_reads ws others s k) (no_index piece.selection) (no_target others)

  -- the way of a case that takes no item
  abbrev IsSilent : Option Flow → Type 0
  IsSilent None = ⊤
  IsSilent (Some way) = some (reads_bit s k) way ≡ false

  mutual
    no_action : (a : Action) (rest : Flow) → some (reads_bit s k) rest ≡ false → some (reads_bit s k) (action_then ws a rest) ≡ false
    no_action (Set target value delayed spot) rest h =
        neither (reads ws value s k || target_reads ws target s k) (some (reads_bit s k) rest) (neither (reads ws value s k) (target_reads ws target s k) (no_read value) (no_target target)) h
    no_action (If test taken other spot) rest h =
        neither (reads ws test s k) ((some (reads_bit s k) (other_flow ws other) || some (reads_bit s k) (actions_then ws taken End)) || some (reads_bit s k) rest) (no_read test)
        (neither (some (reads_bit s k) (other_flow ws other) || some (reads_bit s k) (actions_then ws taken End)) (some (reads_bit s k) rest) (neither (some (reads_bit s k) (other_flow ws other)) (some (reads_bit s k) (actions_then ws taken End)) (no_other other) (no_actions taken End refl)) h)
    no_action (Case kind full parallel selector branches fallback spot) rest h =
        let all = ways ws (way_past ws (is_complete ws kind full selector branches) fallback) branches in
        neither (reads ws selector s k || reads_all ws (labels_of branches) s k) (some_way (reads_bit s k) all || some (reads_bit s k) rest)
        (neither (reads ws selector s k) (reads_all ws (labels_of branches) s k) (no_read selector) (no_reads (labels_of branches)))
        (neither (some_way (reads_bit s k) all) (some (reads_bit s k) rest) (no_ways (way_past ws (is_complete ws kind full selector branches) fallback) (no_past (is_complete ws kind full selector branches) fallback) branches) h)
    no_action (Block body) rest h = no_actions body rest h

    no_actions : (body : Actions) (rest : Flow) → some (reads_bit s k) rest ≡ false → some (reads_bit s k) (actions_then ws body rest) ≡ false
    no_actions Done rest h = h
    no_actions (Then one others) rest h =
        no_action one (actions_then ws others rest) (no_actions others rest h)

    no_other : (other : Otherwise) → some (reads_bit s k) (other_flow ws other) ≡ false
    no_other Without = refl
    no_other (With body) = no_actions body End refl

    no_past : (complete : Bool) (other : Otherwise) → IsSilent (way_past ws complete other)
    no_past complete (With body) = no_actions body End refl
    no_past false Without = refl
    no_past true Without = tt

    no_ways : (way : Option Flow) → IsSilent way → (branches : Branches) → some_way (reads_bit s k) (ways ws way branches) ≡ false
    no_ways (Some way) h NoBranch = h
    no_ways (Some way) h (Branch labels body others) =
        neither (some (reads_bit s k) way) (some_way (reads_bit s k) (ways ws (Some (actions_then ws body End)) others)) h (no_ways (Some (actions_then ws body End)) (no_actions body End refl) others)
    no_ways None h NoBranch = refl
    no_ways None h (Branch labels body others) =
        no_ways (Some (actions_then ws body End)) (no_actions body End refl) others

  no_items : (a b : Bit) (items : List Watched) → list_any (item_hears ws s k a b) items ≡ false
  no_items a b [] = refl
  no_items a b (item ∷ items) =
      neither (item_hears ws s k a b item) (list_any (item_hears ws s k a b) items) (not_left (may_select ws item.signal item.selection s k) (happens item.edge a b) (no_selection item.signal item.selection)) (no_items a b items)

  -- a process hears no change of it
  no_change : (a b : Bit) (does : Doing) → listens ws s k a b does ≡ false
  no_change a b (Assign target e) = not_left (reads ws e s k) (happens No a b) (no_read e)
  no_change a b (Comb None body) =
      not_left (some (reads_bit s k) (actions_then ws body End)) (happens No a b) (no_actions body End refl)
  no_change a b (Comb (Some items) body) = no_items a b items
  no_change a b (Edge' events body) = no_items a b events

pub deaf : (ws : ℕ → ℕ) (s : ℕ) → ws s ≡ 0 → (does : Option Doing) (k : ℕ) (a b : Bit) → listens_of ws does s k a b ≡ false
deaf ws s none None k a b = refl
deaf ws s none (Some does) k a b = no_change ws s k none a b does
