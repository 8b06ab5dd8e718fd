-- What groups show of cycles.
use Rattle.std.specs.Prelude.{Vec, IfSome}
use Rattle.std.specs.declared.alloc.Global.{Global}
use Rattle.std.proofs.Common.{ℕ, zero, suc, ◌≡◌, ◌∙◌, ◌<◌, ◌≤◌, ◌+◌, arith, Bool, true, false, List, [], ◌∷◌, ◌++◌, length, get_or, Option, Some, None, refl, sym, subst, inl, inr}
use Rattle.std.proofs.lemmas.Bool.{cases_lt}
use Rattle.std.proofs.lemmas.List.{length-append}
use Rattle.rtl_flat.specs.Levels.{Chain, Here, Then}
use Rattle.check_found.specs.rtl_scan.Graph.{row, ArrowIn}
use Rattle.check_found.proofs.rtl_scan_proofs.Chains.{joined}
use Rattle.check_loops.specs.declared.groups.Group.{Group}
use Rattle.check_loops.specs.Rounds.{AreAgreed, AreAnswered, AreLed, AreOnCycles, IsLooked, IsOnCycle, Leads, TurnsBack, group_at}
use Rattle.check_loops.proofs.Places.{push_old, push_new, row_there}

-- ---- one element more

pub answered_more : (rows : List (Vec ℕ Global)) (groups : List Group) (n : ℕ) (answers new : List Bool) (answer : Bool) → new ≡ answers ++ answer ∷ [] → n < length groups → IsLooked groups (row rows n) (group_at groups n) (length (row rows n)) answer → AreAnswered rows groups n answers → AreAnswered rows groups (n + 1) new
answered_more rows groups n answers new answer is inside looked before =
    subst (λ (all : List Bool). AreAnswered rows groups (n + 1) all) (sym is)
    (record {
      same_length = length-append answers (answer ∷ []) ∙ (let len = before.same_length in omega arith);
      fits = omega arith;
      each = λ p below. elim (cases_lt p n) as (λ _. IsLooked groups (row rows p) (group_at groups p) (length (row rows p)) (get_or (answers ++ answer ∷ []) p false)) [
        | inl first ↦
            let len = before.same_length in
            let there : p < length answers = omega arith in
            subst (λ (b : Bool). IsLooked groups (row rows p) (group_at groups p) (length (row rows p)) b) (sym (push_old answers answer false p there)) (before.each p first)
        | inr last ↦
            let len = before.same_length in
            let e : p ≡ n = omega arith in
            let at : p ≡ length answers = omega arith in
            subst (λ (b : Bool). IsLooked groups (row rows p) (group_at groups p) (length (row rows p)) b) (sym (push_new answers answer false p at))
            (subst (λ (x : ℕ). IsLooked groups (row rows x) (group_at groups x) (length (row rows x)) answer) (sym e) looked)
      ];
    })

-- ---- all together

-- a chain the other way round
back : (rows turned : List (Vec ℕ Global)) → TurnsBack rows turned → (n p q : ℕ) → Chain (ArrowIn turned) n p q → Chain (ArrowIn rows) n q p
back rows turned turns zero p q (Here p') = Here p
back rows turned turns (suc n) p q (Then n' p' x q' chain arrow) =
    subst (λ (k : ℕ). Chain (ArrowIn rows) k q p) (omega arith)
    (joined (ArrowIn rows) 1 n q x p (Then 0 q q x (Here q) (turns.each x q arrow)) (back rows turned turns n p x chain))

module _ (rows turned : List (Vec ℕ Global)) (turns : TurnsBack rows turned) (one other : List (Option Group)) (forth : AreLed turned one) (back_led : AreLed rows other) (groups : List Group) (agreed : AreAgreed one other (length one) groups) (answers : List Bool) (answered : AreAnswered rows groups (length rows) answers) where
  abbrev root : ℕ → ℕ
  root p = (group_at groups p).root

  abbrev rank : ℕ → ℕ
  rank p = (group_at groups p).rank

  to_root : (p : ℕ) → p < length groups → Leads rows p (root p)
  to_root p inside =
      let len = agreed.same_length in
      let is = agreed.each p (omega arith) in
      subst (λ (r : ℕ). Leads rows p r) is.same_root (back_led.each p is.twin is.found)

  from_root : (p : ℕ) → p < length groups → Leads rows (root p) p
  from_root p inside =
      let len = agreed.same_length in
      let is = agreed.each p (omega arith) in
      let (n, chain) = forth.each p (group_at groups p) is.there in
      (n, back rows turned turns n p (root p) chain)

  cycle : (q : ℕ) → q < length rows → get_or answers q false ≡ true → IsOnCycle rows q
  cycle q inside is =
      let fits = answered.fits in
      let (j, below, same) = (answered.each q inside).shown is in
      let there = (answered.each q inside).there j below in
      let p = get_or (row rows q) j 0 in
      let (n, up) = to_root q (omega arith) in
      let (m, down) = from_root p there in
      let down' : Chain (ArrowIn rows) m (root q) p = subst (λ (r : ℕ). Chain (ArrowIn rows) m r p) same.1 down in
      (m + n, Then (m + n) q p q (joined (ArrowIn rows) n m q (root q) p up down') (j, below, refl))

  -- no arrow leads to a later group
  falls : (n a b : ℕ) → Chain (ArrowIn rows) n a b → rank b ≤ rank a
  falls zero a b (Here a') = omega arith
  falls (suc n) a b (Then n' a' x b' chain arrow) =
      let before = falls n a x chain in
      let inside = row_there rows b arrow.0 arrow.1 in
      let at : get_or (row rows b) arrow.0 0 ≡ x = arrow.2 in
      elim ((answered.each b inside).each arrow.0 arrow.1) as (λ _. rank b ≤ rank a) [
        | inl within ↦ let same : rank x ≡ rank b = subst (λ (y : ℕ). rank y ≡ rank b) at within.1.0 in omega arith
        | inr later ↦ let less : rank b < rank x = subst (λ (y : ℕ). rank b < rank y) at later in omega arith
      ]

  is_true : (q : ℕ) → q < length rows → IsOnCycle rows q → get_or answers q false ≡ true
  is_true q inside on = closed on.0 on.1
    where
      closed : (n : ℕ) → Chain (ArrowIn rows) (suc n) q q → get_or answers q false ≡ true
      closed n (Then n' q' x q'' chain arrow) =
          let before = falls n q x chain in
          let at : get_or (row rows q) arrow.0 0 ≡ x = arrow.2 in
          elim ((answered.each q inside).each arrow.0 arrow.1) as (λ _. get_or answers q false ≡ true) [
            | inl within ↦ within.0
            | inr later ↦ absurd (let less : rank q < rank x = subst (λ (y : ℕ). rank q < rank y) at later in omega arith)
          ]

  pub shown_all : AreOnCycles rows answers
  shown_all = record { same_length = answered.same_length; each = λ p inside. (cycle p inside, is_true p inside) }

-- of answers, if there are any
pub shown_some : (rows turned : List (Vec ℕ Global)) → TurnsBack rows turned → (one other : List (Option Group)) → AreLed turned one → AreLed rows other → (groups there : List Group) → there ≡ groups → AreAgreed one other (length one) groups → (all : Option (Vec Bool Global)) → IfSome all (λ answers. AreAnswered rows there (length rows) answers.items) → IfSome all (λ answers. AreOnCycles rows answers.items)
shown_some rows turned turns one other forth led groups there same agreed None h = h
shown_some rows turned turns one other forth led groups there same agreed (Some answers) h =
    shown_all rows turned turns one other forth led groups agreed answers.items
    (subst (λ (all : List Group). AreAnswered rows all (length rows) answers.items) same h)
