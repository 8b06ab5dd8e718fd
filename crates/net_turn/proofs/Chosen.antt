-- What a process runs.
use Rattle.std.proofs.Common.{◌≡◌, ◌∙◌, ◌<◌, ◌+◌, ℕ, suc, Bool, true, false, cond, List, [], ◌∷◌, Option, None, Some, length, drop, get_or, refl, sym, ap, subst, inl, inr}
use Rattle.std.specs.Prelude.{IsTrue}
use Rattle.std.specs.List.{slice_get}
use Rattle.std.specs.Option.{IsSomeAnd}
use Rattle.std.proofs.lemmas.List.{at_drop_more}
use Rattle.rtl_bits.specs.Bits.{same_bit}
use Rattle.rtl_flat.specs.Process.{Actions}
use Rattle.event_model.specs.Queue.{happens, is_input}
use Rattle.rtl_flat.specs.Flats.{Flat}
use Rattle.event_model.specs.Writes.{Values}
use Rattle.net_model.specs.declared.fill.Fill.{Fill}
use Rattle.net_model.specs.Block.{block_bit}
use Rattle.net_model.specs.Control.{IsBehind}
use Rattle.net_model.specs.Cycle.{Chain, Guard, level, reset_bit, strongest}
use Rattle.net_model.specs.Numbers.{bit}
use Rattle.net_list.specs.check_chains.Views.{chain_view}
use Rattle.net_list.specs.declared.clocked.Clocked.{Clocked}
use Rattle.net_turn.specs.Runs.{IsPartOf, active_of, body_run, numbers_of, run_bit, run_of}
use Rattle.net_turn.specs.Sources.{AreFrom}

-- ---- the first of resets

pub active_more : (n : Values) (guards : List Guard) (tops : List ℕ) (k : ℕ) (guard : Guard) (top : ℕ) → k < length guards → k < length tops → active_of n (drop k guards) (drop k tops) ≡ cond (same_bit (bit n (get_or tops k top) 0) (level (get_or guards k guard).item.edge)) (Some (get_or guards k guard)) (active_of n (drop (k + 1) guards) (drop (k + 1) tops))
active_more n guards tops k guard top below below' =
    at_drop_more (λ xs. active_of n xs (drop k tops)) guards k guard below
    ∙ at_drop_more (λ ys. active_of n (get_or guards k guard ∷ drop (k + 1) guards) ys) tops k top below'

-- it is at a place, or behind it
pub active_here : (n : Values) (guards : List Guard) (tops : List ℕ) (k : ℕ) (guard : Guard) (top : ℕ) → k < length guards → k < length tops → get_or guards k guard ≡ guard → get_or tops k 0 ≡ top → same_bit (bit n top 0) (level guard.item.edge) ≡ true → active_of n (drop k guards) (drop k tops) ≡ Some guard
active_here n guards tops k guard top below below' is is' at_level =
    active_more n guards tops k guard 0 below below'
    ∙ (ap (λ (g : Guard). cond (same_bit (bit n (get_or tops k 0) 0) (level g.item.edge)) (Some g) (active_of n (drop (k + 1) guards) (drop (k + 1) tops))) is
    ∙ (ap (λ (t : ℕ). cond (same_bit (bit n t 0) (level guard.item.edge)) (Some guard) (active_of n (drop (k + 1) guards) (drop (k + 1) tops))) is'
    ∙ ap (λ b. cond b (Some guard) (active_of n (drop (k + 1) guards) (drop (k + 1) tops))) at_level))

pub active_later : (n : Values) (guards : List Guard) (tops : List ℕ) (k : ℕ) (guard : Guard) (top : ℕ) → k < length guards → k < length tops → get_or guards k guard ≡ guard → get_or tops k 0 ≡ top → same_bit (bit n top 0) (level guard.item.edge) ≡ false → active_of n (drop k guards) (drop k tops) ≡ active_of n (drop (k + 1) guards) (drop (k + 1) tops)
active_later n guards tops k guard top below below' is is' at_level =
    active_more n guards tops k guard 0 below below'
    ∙ (ap (λ (g : Guard). cond (same_bit (bit n (get_or tops k 0) 0) (level g.item.edge)) (Some g) (active_of n (drop (k + 1) guards) (drop (k + 1) tops))) is
    ∙ (ap (λ (t : ℕ). cond (same_bit (bit n t 0) (level guard.item.edge)) (Some guard) (active_of n (drop (k + 1) guards) (drop (k + 1) tops))) is'
    ∙ ap (λ b. cond b (Some guard) (active_of n (drop (k + 1) guards) (drop (k + 1) tops))) at_level))

active_in : (n : Values) (guards : List Guard) (tops : List ℕ) (guard : Guard) → active_of n guards tops ≡ Some guard → (place : ℕ) × IsSomeAnd (slice_get guards place) (λ one. one.branch ≡ guard.branch)
active_in n [] tops guard e = absurd (cc)
active_in n (first ∷ guards) [] guard e = absurd (cc)
active_in n (first ∷ guards) (top ∷ tops) guard e =
    by_test (active_in n guards tops guard) (same_bit (bit n top 0) (level first.item.edge)) e
  where
    by_test : (active_of n guards tops ≡ Some guard → (place : ℕ) × IsSomeAnd (slice_get guards place) (λ one. one.branch ≡ guard.branch)) → (b : Bool) → cond b (Some first) (active_of n guards tops) ≡ Some guard → (place : ℕ) × IsSomeAnd (slice_get (first ∷ guards) place) (λ one. one.branch ≡ guard.branch)
    by_test later true e' = let same : first ≡ guard = cc in (0, ap (λ (g : Guard). g.branch) same)
    by_test later false e' = let (place, is) = later e' in (suc place, is)

-- ---- what runs is a part of the chain

body_part : (n : Values) (chain : Chain) (tops : List ℕ) (edge : Bool) (body : Actions) → body_run (active_of n chain.resets tops) edge chain.part ≡ Some body → IsPartOf chain body
body_part n chain tops edge body e = by_active (active_of n chain.resets tops) refl edge e
  where
    by_active : (o : Option Guard) → active_of n chain.resets tops ≡ o → (b : Bool) → body_run o b chain.part ≡ Some body → IsPartOf chain body
    by_active None is true e' = let same : chain.part ≡ body = cc in inl (sym same)
    by_active None is false e' = absurd (cc)
    by_active (Some guard) is b e' =
        let same : guard.branch ≡ body = cc in
        let (place, there) = active_in n chain.resets tops guard is in
        inr (place, subst (λ (x : Actions). IsSomeAnd (slice_get chain.resets place) (λ one. one.branch ≡ x)) same there)

pub run_part : (old new : Values) (one : Clocked) (body : Actions) → run_of old new one ≡ Some body → IsPartOf (chain_view one.chain) body
run_part old new one body e =
    body_part new (chain_view one.chain) (numbers_of one.resets.items) (happens (chain_view one.chain).clock.edge (bit old one.clock.0 0) (bit new one.clock.0 0)) body e

-- ---- what registers take

-- resets are active by the top inputs that they come from
pub strongest_is : (d : Flat) (n given : Values) → ((top i : ℕ) → IsTrue (is_input d top) → IsBehind d top i → bit n i 0 ≡ bit given top 0) → (tops : List ℕ) (guards : List Guard) → AreFrom d tops guards → strongest n guards ≡ active_of given guards tops
strongest_is d n given carried [] [] are = refl
strongest_is d n given carried [] (guard ∷ guards) are = absurd are
strongest_is d n given carried (top ∷ tops) [] are = absurd are
strongest_is d n given carried (top ∷ tops) (guard ∷ guards) are =
    ap (λ b. cond (same_bit b (level guard.item.edge)) (Some guard) (strongest n guards)) (carried top guard.item.signal are.0.input are.0.behind)
    ∙ ap (λ o. cond (same_bit (bit given top 0) (level guard.item.edge)) (Some guard) o) (strongest_is d n given carried tops guards are.1)

-- what runs gives what the definition gives
pub run_gives : (ws : ℕ → ℕ) (f : Fill) (old : Values) (o : Option Guard) (edge : Bool) (part : Actions) (i k : ℕ) → run_bit ws f old (body_run o edge part) i k ≡ reset_bit ws f old o (cond edge (block_bit ws f old part i k) (bit old i k)) i k
run_gives ws f old None true part i k = refl
run_gives ws f old None false part i k = refl
run_gives ws f old (Some guard) edge part i k = refl
