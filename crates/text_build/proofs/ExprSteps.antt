-- What one turn of a chain of operators does, and one level of depth of an expression.
use Rattle.std.proofs.Common.{◌≡◌, ◌<◌, cond, ℕ, zero, suc, List, Some, None, true, false, refl, ap, ◌∙◌, arith}
use Rattle.rtl_tree.specs.Symbols.{Terminal}
use Rattle.rtl_tree.specs.TreeExpr.{Formula}
use Rattle.text_build.specs.Reading.{Parser, Outcome, and_then, turns}
use Rattle.text_build.specs.ReadingExpr.{ended, goes, link, chain, sequence, climb}
use Rattle.text_build.proofs.Steps.{turns_out, turns_stop, turns_go, turns_fail}

pub chain_start : (n d k : ℕ) (e : ℕ → Parser Formula) (a b : Formula) (ts : List Terminal) → n ≡ d → a ≡ b → and_then (turns n (goes k) (link e) a ts) (ended k) ≡ chain d k e b ts
unfolding chain
chain_start n d k e a b ts h f = rw (h, f) refl

pub chain_stop : (n k : ℕ) (e : ℕ → Parser Formula) (a : Formula) (ts : List Terminal) → goes k ts ≡ false
    → and_then (turns n (goes k) (link e) a ts) (ended k) ≡ Some (a, ts)
unfolding ended
chain_stop n k e a ts s =
    ap (λ o. and_then o (ended k)) (turns_stop n (goes k) (link e) a ts s) ∙ ap (λ b. cond b None (Some (a, ts))) s

pub chain_out : (n k : ℕ) (e : ℕ → Parser Formula) (a : Formula) (ts : List Terminal) → n ≡ 0 → goes k ts ≡ true
    → and_then (turns n (goes k) (link e) a ts) (ended k) ≡ None
unfolding ended
chain_out n k e a ts z s =
    ap (λ o. and_then o (ended k)) (turns_out n (goes k) (link e) a ts z) ∙ ap (λ b. cond b None (Some (a, ts))) s

pub chain_go : (n m k : ℕ) (e : ℕ → Parser Formula) (a : Formula) (ts : List Terminal) (next : Outcome Formula) → n ≡ suc m → goes k ts ≡ true
    → link e a ts ≡ next
    → and_then (turns n (goes k) (link e) a ts) (ended k) ≡ and_then (and_then next (turns m (goes k) (link e))) (ended k)
chain_go n m k e a ts next z s l = ap (λ o. and_then o (ended k)) (turns_go n m (goes k) (link e) a ts next z s l)

pub chain_fail : (n k : ℕ) (e : ℕ → Parser Formula) (a : Formula) (ts : List Terminal) → 0 < n → goes k ts ≡ true → link e a ts ≡ None
    → and_then (turns n (goes k) (link e) a ts) (ended k) ≡ None
chain_fail n k e a ts m s l = ap (λ o. and_then o (ended k)) (turns_fail n (goes k) (link e) a ts m s l)

pub climb_none : (d k : ℕ) (ts : List Terminal) → d ≡ 0 → climb d k ts ≡ None
unfolding climb
climb_none zero k ts e = refl
climb_none (suc d) k ts e = absurd (omega arith)

pub climb_deeper : (d e k : ℕ) (ts : List Terminal) → d ≡ suc e → climb d k ts ≡ sequence e k (climb e) ts
unfolding climb
climb_deeper d e k ts h = ap (λ n. climb n k ts) h
