-- Chains of arrows: how long they get, and where they go round.
use Rattle.std.proofs.Common.{ℕ, zero, suc, ◌≡◌, ◌<◌, ◌≤◌, ◌+◌, ◌-◌, arith, List, length, get_or, sym, subst}
use Rattle.rtl_flat.specs.Levels.{Chain, Here, Then, IsBehindCycle, IsDepth}

module _ (Arrow : ℕ → ℕ → Type 0) where
  -- one chain after another
  pub joined : (m n p q r : ℕ) → Chain Arrow m p q → Chain Arrow n q r → Chain Arrow (n + m) p r
  joined m zero p q r a (Here q') = subst (λ (k : ℕ). Chain Arrow k p q) (omega arith) a
  joined m (suc n) p q r a (Then n' q' s r' b arrow) =
      subst (λ (k : ℕ). Chain Arrow k p r) (omega arith) (Then (n + m) p s r (joined m n p q s a b) arrow)

  -- a cycle, some times over
  rounds : (k c p : ℕ) → Chain Arrow (suc c) p p → (n : ℕ) × (k ≤ n) × Chain Arrow n p p
  rounds zero c p cycle = (0, omega arith, Here p)
  rounds (suc k) c p cycle =
      let (n, long, chain) = rounds k c p cycle in
      (n + suc c, omega arith, joined (suc c) n p p p cycle chain)

  -- a node whose chains have a greatest length is not behind a cycle
  pub not_behind : (p n : ℕ) → IsDepth Arrow p n → IsBehindCycle Arrow p → ⊥
  not_behind p n depth behind =
      let (m, long, chain) = rounds (n + 1) behind.round behind.node behind.cycle in
      let less = depth.most (behind.length + m) behind.node (joined m behind.length behind.node behind.node p chain behind.chain) in
      absurd (omega arith)

  pub level_from_depth : (p n : ℕ) → IsDepth Arrow p n → (IsBehindCycle Arrow p → ⊥) × IsDepth Arrow p n
  level_from_depth p n depth = (not_behind p n depth, depth)

  -- a node is as deep as one more than the deepest before it
  pub depth_from_before : (p n start : ℕ) → Chain Arrow n start p → ((q : ℕ) → Arrow q p → (m : ℕ) × (m < n) × IsDepth Arrow q m) → IsDepth Arrow p n
  depth_from_before p n start chain before = record { start = start; chain = chain; most = most }
    where
      most : (m q : ℕ) → Chain Arrow m q p → m ≤ n
      most zero q (Here p') = omega arith
      most (suc m) q (Then m' q' r p' b arrow) =
          let (k, less, depth) = before r arrow in
          let under = depth.most m q b in
          omega arith

  -- what stands behind a node that is behind a cycle
  pub behind_next : (p q : ℕ) → IsBehindCycle Arrow p → Arrow p q → IsBehindCycle Arrow q
  behind_next p q behind arrow = record {
    node = behind.node;
    round = behind.round;
    cycle = behind.cycle;
    length = suc behind.length;
    chain = Then behind.length behind.node p q behind.chain arrow;
  }

  pub behind_chain : (p q n : ℕ) → IsBehindCycle Arrow p → Chain Arrow n p q → IsBehindCycle Arrow q
  behind_chain p q n behind chain = record {
    node = behind.node;
    round = behind.round;
    cycle = behind.cycle;
    length = n + behind.length;
    chain = joined behind.length n behind.node p q behind.chain chain;
  }

  -- ---- a trail: each node has an arrow to the one before it

  abbrev pub IsTrail : List ℕ → Type 0
  IsTrail stack = (i : ℕ) → i + 1 < length stack → Arrow (get_or stack (i + 1) 0) (get_or stack i 0)

  pub trail_chain : (stack : List ℕ) → IsTrail stack → (n i : ℕ) → i + n < length stack → Chain Arrow n (get_or stack (i + n) 0) (get_or stack i 0)
  trail_chain stack trail zero i h =
      subst (λ (j : ℕ). Chain Arrow 0 (get_or stack j 0) (get_or stack i 0)) (omega arith) (Here (get_or stack i 0))
  trail_chain stack trail (suc n) i h =
      let upper : Chain Arrow n (get_or stack ((i + 1) + n) 0) (get_or stack (i + 1) 0)
      = trail_chain stack trail n (i + 1) (omega arith) in
      subst (λ (j : ℕ). Chain Arrow (suc n) (get_or stack j 0) (get_or stack i 0)) (omega arith)
      (Then n (get_or stack ((i + 1) + n) 0) (get_or stack (i + 1) 0) (get_or stack i 0) upper (trail i (omega arith)))

  -- an arrow from a node on the trail to its end closes a cycle
  pub closes : (stack : List ℕ) → IsTrail stack → (top i p : ℕ) → i ≤ top → top < length stack → p ≡ get_or stack i 0 → Arrow p (get_or stack top 0) → IsBehindCycle Arrow p
  closes stack trail top i p below inside is arrow = record {
    node = p;
    round = top - i;
    cycle = subst (λ (k : ℕ). Chain Arrow k p p) (omega arith) (joined 1 (top - i) p (get_or stack top 0) p
        (Then 0 p p (get_or stack top 0) (Here p) arrow) down);
    length = 0;
    chain = Here p;
  }
    where
      down : Chain Arrow (top - i) (get_or stack top 0) p
      down =
          let at : Chain Arrow (top - i) (get_or stack (i + (top - i)) 0) (get_or stack i 0) = trail_chain stack trail (top - i) i (omega arith) in
          let same : i + (top - i) ≡ top = omega arith in
          subst (λ (x : ℕ). Chain Arrow (top - i) (get_or stack top 0) x) (sym is) (subst (λ (j : ℕ). Chain Arrow (top - i) (get_or stack j 0) (get_or stack i 0)) same at)

  -- and then all of the trail is behind it
  pub all_behind : (stack : List ℕ) → IsTrail stack → (top p : ℕ) → length stack ≡ top + 1 → IsBehindCycle Arrow p → Arrow p (get_or stack top 0) → (i : ℕ) → i < length stack → IsBehindCycle Arrow (get_or stack i 0)
  all_behind stack trail top p len behind arrow i h =
      let at : Chain Arrow (top - i) (get_or stack (i + (top - i)) 0) (get_or stack i 0) = trail_chain stack trail (top - i) i (omega arith) in
      let same : i + (top - i) ≡ top = omega arith in
      behind_chain (get_or stack top 0) (get_or stack i 0) (top - i) (behind_next p (get_or stack top 0) behind arrow)
      (subst (λ (j : ℕ). Chain Arrow (top - i) (get_or stack j 0) (get_or stack i 0)) same at)
