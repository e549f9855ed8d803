-- Stages and neighbouring points of a lawful curve.
use Rattle.std.proofs.Common.{◌≡◌, ℕ, zero, suc, ◌+◌, ◌-◌, ◌<◌, ◌≤◌, length, ℤ, ◌≤ℤ◌, sym, refl, ap, ◌∙◌, subst, add-one, arith}
use native.Mathlib.Decide.{dec_lt, ℕ_discrete}
use Rattle.std.proofs.lemmas.Int.{ints, by_lt_z}
use Rattle.curve.specs.Curves.{Curve, point, LawfulCurve, flow_between, Between, FlowAt, Covered}
use Rattle.curve.specs.Laws.{AnyPair, FlowsWithin, FlowsBetween}
use Rattle.curve.proofs.Lines.{at_start, at_end, between_flows}

module _ (c : Curve) (L : LawfulCurve c) where
  -- a later point lies higher
  pub climbs : (j d : ℕ) → j + d < length c → (point c j).stage ≤ℤ (point c (j + d)).stage
  climbs j zero h = let e : j + 0 ≡ j = omega arith in rw e (omega (arith, ints))
  climbs j (suc d) h =
      let e : j + suc d ≡ (j + d) + 1 = omega arith in
      let r = climbs j d (omega arith) in
      let s = L.rises (j + d) (omega arith) in
      rw e (omega (arith, ints, r, s))

  pub higher : (j k : ℕ) → j ≤ k → k < length c → (point c j).stage ≤ℤ (point c k).stage
  higher j k l h =
      let e : j + (k - j) ≡ k = omega arith in
      subst (λ m. (point c j).stage ≤ℤ (point c m).stage) e (climbs j (k - j) (omega arith))

  -- two pairs that hold one stage are the same, or the stage is where they meet
  meet : (j k : ℕ) (s : ℤ) → Between c j s → Between c k s → j < k
      → flow_between (point c j) (point c (j + 1)) s ≡ flow_between (point c k) (point c (k + 1)) s
  meet j k s p q l =
      let up = higher (j + 1) k (omega arith) (omega (arith, q.neighbour)) in
      let upper : s ≡ (point c (j + 1)).stage = omega (arith, ints, p.to, q.from, up) in
      let lower : s ≡ (point c k).stage = omega (arith, ints, p.to, q.from, up) in
      let same : j + 1 ≡ k = go up upper lower (ℕ_discrete (j + 1) k) in
      ap (flow_between (point c j) (point c (j + 1))) upper ∙ at_end (point c j) (point c (j + 1)) (L.rises j p.neighbour) (L.never_falls j p.neighbour)
      ∙ ap (λ m. (point c m).flow) same ∙ sym (ap (flow_between (point c k) (point c (k + 1))) lower ∙ at_start (point c k) (point c (k + 1)))
    where
      go : (point c (j + 1)).stage ≤ℤ (point c k).stage → s ≡ (point c (j + 1)).stage → s ≡ (point c k).stage → Dec (j + 1 ≡ k) → j + 1 ≡ k
      go up a b (yes e) = e
      go up a b (no n) =
          let r = L.rises (j + 1) (omega (arith, q.neighbour)) in
          let t = higher (j + 1 + 1) k (omega arith) (omega (arith, q.neighbour)) in
          let m : (point c (j + 1)).stage ≡ (point c k).stage = sym a ∙ b in
          absurd (omega (arith, ints, r, t, m))

  pair_one : (j k : ℕ) (s : ℤ) → Between c j s → Between c k s
      → flow_between (point c j) (point c (j + 1)) s ≡ flow_between (point c k) (point c (k + 1)) s
  pair_one j k s p q = go (dec_lt j k) (dec_lt k j)
    where
      go : Dec (j < k) → Dec (k < j) → flow_between (point c j) (point c (j + 1)) s ≡ flow_between (point c k) (point c (k + 1)) s
      go (yes l) d = meet j k s p q l
      go (no a) (yes l) = sym (meet k j s q p l)
      go (no a) (no b) = let e : j ≡ k = omega (arith, a, b) in ap (λ m. flow_between (point c m) (point c (m + 1)) s) e

  pub flow_one : (s : ℤ) (q r : ℕ) → FlowAt c s q → FlowAt c s r → q ≡ r
  flow_one s q r (j, b, e) (k, d, f) = e ∙ pair_one j k s b d ∙ sym f

  -- the pair that holds a stage, looked for among the first m points
  found : (s : ℤ) → (point c 0).stage ≤ℤ s → (m : ℕ) → m + 1 < length c → (s ≤ℤ (point c (m + 1)).stage) → (k : ℕ) × Between c k s
  found s low zero h t = (0, record { neighbour = h; from = low; to = t })
  found s low (suc m) h t =
      by_lt_z s (point c (m + 1)).stage
      (λ l. found s low m (omega arith) (omega (arith, ints, l)))
      (λ g. (
        m + 1,
        record {
          neighbour = omega (arith, h);
          from = g;
          to = subst (λ x. s ≤ℤ (point c (x + 1)).stage) (sym (add-one m)) t;
        },
      ))

  pub flow_there : (s : ℤ) → Covered c s → (q : ℕ) × FlowAt c s q
  flow_there s (low, high) =
      let n : length c - 1 ≡ (length c - 2) + 1 = omega (arith, L.least) in
      let (k, b) = found s low (length c - 2) (omega (arith, L.least)) (subst (λ x. s ≤ℤ (point c x).stage) n high) in
      (flow_between (point c k) (point c (k + 1)) s, (k, b, refl))

  pub flow_covered : (s : ℤ) (q : ℕ) → FlowAt c s q → Covered c s
  flow_covered s q (k, b, e) =
      let lo = higher 0 k (omega arith) (omega (arith, b.neighbour)) in
      let hi = higher (k + 1) (length c - 1) (omega (arith, b.neighbour)) (omega (arith, b.neighbour)) in
      (omega (arith, ints, lo, b.from), omega (arith, ints, hi, b.to))

pub any_pair : AnyPair
any_pair c L j k s p q = pair_one c L j k s p q

pub flows_within : FlowsWithin
flows_within c L s = (flow_there c L s, flow_covered c L s)

pub flows_between : FlowsBetween
flows_between c L k s b = between_flows (point c k) (point c (k + 1)) s b.from b.to (L.never_falls k b.neighbour)
