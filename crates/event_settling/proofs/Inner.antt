-- A body without nonblocking statements makes no update for later.
use Rattle.std.proofs.Common.{◌≡◌, ℕ, Bool, true, false, if◌then◌else◌, List, [], ◌∷◌, ◌++◌, map, refl, arith}
use Rattle.rtl_bits.specs.declared.Bit.{Bit}
use Rattle.rtl_bits.specs.Bit.{is_one}
use Rattle.rtl_bits.specs.Bits.{truth_bit}
use Rattle.rtl_flat.specs.declared.act.CaseKind.{CaseKind}
use Rattle.rtl_flat.specs.Process.{Action, Set, If, Case, Block, Actions, Done, Then, Otherwise, Without, With, Branches, NoBranch, Branch}
use Rattle.rtl_flat.specs.Value.{value}
use Rattle.event_model.specs.Bodies.{Made, Now, Later, after_made, assigned, body_made, branches_made, made, other_made, some_matches}
use Rattle.event_model.specs.Policies.{nonblocking, nonblocking_branches, nonblocking_in, nonblocking_other, late}
use Rattle.event_model.specs.Writes.{Values, Write, writes}
use Rattle.event_runs.specs.Effects.{laters}

abbrev HasNoLater : List Made → Type 0
HasNoLater ms = laters ms ≡ []

none_append : (xs ys : List Made) → HasNoLater xs → HasNoLater ys → HasNoLater (xs ++ ys)
none_append [] ys a b = b
none_append (Now w ∷ xs) ys a b = none_append xs ys a b
none_append (Later us ∷ xs) ys a b = absurd (let z : us ∷ laters xs ≡ [] = a in cc)

none_now : (us : List Write) → HasNoLater (map Now us)
none_now [] = refl
none_now (w ∷ us) = none_now us

none_assigned : (delayed : Bool) (us : List Write) → late delayed ≡ 0 → HasNoLater (assigned delayed us)
none_assigned false us h = none_now us
none_assigned true us h = absurd (omega (arith, h))

either_none : (b : Bool) (xs ys : List Made) → HasNoLater xs → HasNoLater ys → HasNoLater (if b then xs else ys)
either_none true xs ys a b = a
either_none false xs ys a b = b

module _ (ws : ℕ → ℕ) where
  mutual
    none_made : (one : Action) → nonblocking one ≡ 0 → (v : Values) → HasNoLater (made ws v one)
    none_made (Set target e delayed spot) h v = none_assigned delayed (writes ws v target (value v e)) h
    none_made (If test taken other spot) h v =
        either_none (is_one (truth_bit (value v test))) (body_made ws v taken) (other_made ws v other)
        (none_in taken (omega (arith, h)) v) (none_other other (omega (arith, h)) v)
    none_made (Case kind full parallel selector branches fallback spot) h v =
        none_branches branches (omega (arith, h)) v kind (value v selector) (other_made ws v fallback) (none_other fallback (omega (arith, h)) v)
    none_made (Block body) h v = none_in body h v

    pub none_in : (body : Actions) → nonblocking_in body ≡ 0 → (v : Values) → HasNoLater (body_made ws v body)
    none_in Done h v = refl
    none_in (Then first others) h v =
        none_append (made ws v first) (body_made ws (after_made v (made ws v first)) others)
        (none_made first (omega (arith, h)) v) (none_in others (omega (arith, h)) (after_made v (made ws v first)))

    none_other : (other : Otherwise) → nonblocking_other other ≡ 0 → (v : Values) → HasNoLater (other_made ws v other)
    none_other Without h v = refl
    none_other (With body) h v = none_in body h v

    none_branches :
        (branches : Branches) → nonblocking_branches branches ≡ 0 → (v : Values) (kind : CaseKind) (bits : List Bit) (none : List Made) →
        HasNoLater none → HasNoLater (branches_made ws v kind bits none branches)
    none_branches NoBranch h v kind bits none a = a
    none_branches (Branch labels body others) h v kind bits none a =
        either_none (some_matches kind v bits labels) (body_made ws v body) (branches_made ws v kind bits none others)
        (none_in body (omega (arith, h)) v) (none_branches others (omega (arith, h)) v kind bits none a)
