-- Laws of the choice of the pair: what the code holds of each row, and that all rows give the pair of the graph. Assumes nothing.
use mathlib.Core.Path.{◌≡◌, refl, sym, ap, ap₂, ◌∙◌, subst, fun_ext}
use mathlib.Core.Logic.{◌≢◌, inl, inr}
use mathlib.Core.Bool.{Bool, true, false, not, ◌&&◌, cond}
use mathlib.Core.List.{List, [], ◌∷◌}
use mathlib.Core.Option.{Option, none, some}
use Prim.Native.Nat.{ℕ, zero, suc, ◌+◌, ◌≤◌, ◌<◌}
use native.Mathlib.Numerals.{add-one}
use native.Mathlib.Decide.{dec_lt}
use native.Mathlib.Omega.{arith}
use lib.Dec.{T, leb, ltb, ltb→lt, lt→ltb}
use lib.ListN.{get_or}
use borrow.Author.Tests.{le-leb, lt-ltb, le-ltb}
use Rattle.sets.specs.Lists.{In, upto, members, select, cross, over}
use Rattle.sets.specs.Set.{has, size, IsWithout, IsMeet, IsLess, IsLowest}
use Rattle.sets.proofs.TestLaws.{and_l, and_r, and_t, T?, T→true, T-ext}
use Rattle.sets.proofs.ListLaws.{count_le}
use Rattle.sets.proofs.MemberLaws.{count_agree, count_narrow, members_agree, members_none, members_narrow, In-members}
use Rattle.counts.specs.Counts.{held, value, Counted, Most, IsMost, IsAtLeast}
use Rattle.counts.specs.declared.Counts.{Counts}
use Rattle.graphs.specs.Graph.{Graph, live, gap, degree, common, pair}
use Rattle.graphs.specs.Held.{Held, HeldAt, view}
use Rattle.graphs.specs.Acts.{lead, shared, shared_at, Mutual, Hopeful}
use Rattle.graphs.specs.declared.Node.{Node}
use Rattle.graphs.specs.declared.Lead.{Lead}
use Rattle.graphs.proofs.GraphLaws.{gap_chosen, of_live}
use Rattle.graphs.proofs.LoopLaws.{without_kept, kept_without, over_next, over_none}
use Rattle.graphs.proofs.HeldLaws.{held_beyond, held_members}
use Rattle.graphs.proofs.PassingLaws.{common_of_second, passed_over_first}
use Rattle.graphs.proofs.LeadLaws.{over_narrow, pairs, after, over_greatest, row_lead, cross_lead, Leads, leads_over, reach, leads_reach, row_grows, lead_more, lead_less, lead_grows, lead_stays, lead_first}

-- ---- one pair

-- the count of ones is the number of shared neighbours
shared_is : (cap : ℕ) (rows : List ℕ) (near v m c : ℕ) → IsMeet near (get_or rows v zero) m → c ≡ size cap m → c ≡ shared_at cap rows near v
shared_is cap rows near v m c h e = e ∙ count_agree cap (has m) (λ w. has near w && has (get_or rows v zero) w) (λ j b. h j)

module _ (cap : ℕ) (rows : List ℕ) (near u v m c : ℕ) (l : Lead) (h : IsMeet near (get_or rows v zero) m) (e : c ≡ size cap m) where
  plus : c + 1 ≡ suc (shared_at cap rows near v)
  plus = add-one c ∙ ap suc (shared_is cap rows near v m c h e)

  pub lead_taken : l.size < c + 1 → record { size = c + 1; u = u; v = v } ≡ lead (shared_at cap rows near) u l v
  lead_taken b = ap (λ (k : ℕ). record { size = k; u = u; v = v }) plus ∙ sym (lead_more (shared_at cap rows near) u l v (omega (arith, plus)))

  pub lead_kept : c + 1 ≤ l.size → l ≡ lead (shared_at cap rows near) u l v
  lead_kept b = sym (lead_less (shared_at cap rows near) u l v (omega (arith, plus)))

-- what leads after some of u's pairs: u with `at` where `top` is more than what led before, else that
abbrev pub sofar : Lead → ℕ → ℕ → ℕ → Lead
sofar l u top at = cond (ltb l.size top) (record { size = top; u = u; v = at }) l

module _ (l : Lead) (u top at : ℕ) where
  pub sofar_more : l.size < top → sofar l u top at ≡ record { size = top; u = u; v = at }
  sofar_more b = ap (λ (t : Bool). cond t (record { size = top; u = u; v = at }) l) (lt-ltb l.size top b)

  pub sofar_same : top ≤ l.size → sofar l u top at ≡ l
  sofar_same b = ap (λ (t : Bool). cond t (record { size = top; u = u; v = at }) l) (le-ltb l.size top b)

  pub sofar_size : l.size ≤ top → (sofar l u top at).size ≡ top
  sofar_size b = go (dec_lt l.size top)
    where
      go : Dec (l.size < top) → (sofar l u top at).size ≡ top
      go (yes c) = ap (λ (m : Lead). m.size) (sofar_more c)
      go (no q) = ap (λ (m : Lead). m.size) (sofar_same (omega arith)) ∙ omega arith

-- u has fewer neighbours than would lead: whoever it is paired with shares no more, so its row is passed over
pub row_passed : (cap : ℕ) (rows : List ℕ) (near apart u : ℕ) (best : Lead) → size cap near < best.size
    → best ≡ over (lead (shared_at cap rows near) u) best (members (has apart) cap)
row_passed cap rows near apart u best few =
    sym (lead_stays (shared_at cap rows near) u (members (has apart) cap) best
    (λ v i. omega (arith, few, count_le (λ w. has near w && has (get_or rows v zero) w) (has near) (upto cap) (λ w t. and_l (has near w) (has (get_or rows v zero) w) t))))

-- ---- all pairs of u at once

-- the members of near in whose rows v is are those in v's row
pub held_shared : (rows : List ℕ) (near apart v : ℕ) → Mutual rows near apart → T (has apart v) → held rows near v ≡ shared rows near v
held_shared rows near apart v m t =
    count_agree 64 (λ w. has near w && has (get_or rows w zero) v) (λ w. has near w && has (get_or rows v zero) w) (λ w b. go (has near w) (λ u. m w v u t))
  where
    go : {x y : Bool} (a : Bool) → (T a → x ≡ y) → (a && x) ≡ (a && y)
    go true f = f tt
    go false f = refl

-- v is the lowest of those that share most, by the counts; `ones` is how many it shares
module _ (rows : List ℕ) (near apart u : ℕ) (best : Lead) (c : Counts) (m v met ones : ℕ) (both : Mutual rows near apart) (is : Counted rows near c) (top : IsMost c apart m)
    (low : IsLowest 64 m v) (h : IsMeet near (get_or rows v zero) met) (e : ones ≡ size 64 met) where
  value_shared : (w : ℕ) → T (has apart w) → value c w ≡ shared rows near w
  value_shared w t = is w ∙ held_shared rows near apart w both t

  v_most : Most c apart v
  v_most = top.most v low.member

  v_shares : ones ≡ shared rows near v
  v_shares = shared_is 64 rows near v met ones h e

  v_greatest : (w : ℕ) → T (has apart w) → shared rows near w ≤ shared rows near v
  v_greatest w t = omega (arith, v_most.greatest w t, value_shared w t, value_shared v v_most.member)

  -- it has not enough, so no one has
  pub most_behind : ones + 1 ≤ best.size → best ≡ over (lead (shared rows near) u) best (members (has apart) 64)
  most_behind b =
      sym (lead_stays (shared rows near) u (members (has apart) 64) best
      (λ w i. omega (arith, v_shares, v_greatest w (In-members (has apart) 64 w i).1)))

  -- it has enough, and is the first that has so many
  pub most_leads : best.size < ones + 1 → record { size = ones + 1; u = u; v = v } ≡ over (lead (shared rows near) u) best (members (has apart) 64)
  most_leads b =
      ap (λ (k : ℕ). record { size = k; u = u; v = v }) (add-one ones ∙ ap suc v_shares)
      ∙ sym (lead_first (shared rows near) u (has apart) v v_most.member less v_greatest 64 low.below best (omega (arith, v_shares)))
    where
      less : (j : ℕ) → j < v → T (has apart j) → shared rows near j < shared rows near v
      less j a t = go (dec_lt (shared rows near j) (shared rows near v))
        where
          go : Dec (shared rows near j < shared rows near v) → shared rows near j < shared rows near v
          go (yes d) = d
          go (no d) =
              absurd (low.least j a (top.all j (record {
                member = t;
                greatest = λ w q. omega (arith, v_greatest w q, value_shared w q, value_shared j t);
              })))

-- who has as many may lead
pub least_hopeful : (c : Counts) (need left r : ℕ) → IsAtLeast c need left r → Hopeful c need left r
least_hopeful c need left r is = record {
  within = λ v t. and_l (has left v) (leb need (value c v)) (subst T (is v) t);
  out = λ v t q. go v t q (dec_lt (value c v) need);
}
  where
    go : (v : ℕ) → T (has left v) → ¬ T (has r v) → Dec (value c v < need) → value c v < need
    go v t q (yes b) = b
    go v t q (no b) =
        absurd (q (subst T (sym (is v)) (and_t (has left v) (leb need (value c v)) t (subst T (sym (le-leb need (value c v) (omega arith))) tt))))

-- ---- one row

module _ (cap : ℕ) (rows : List ℕ) (live : ℕ) where
  -- adjacency, gaps and common neighbours, as the words have them
  abbrev edge : ℕ → ℕ → Bool
  edge x y = has live x && (has live y && has (get_or rows x zero) y)

  abbrev pub open? : ℕ × ℕ → Bool
  open? p = (has live p.1 && ltb p.0 p.1) && not (has (get_or rows p.0 zero) p.1 && has live p.1)

  abbrev in_words : Graph
  in_words = record { rep = λ i. i; adj = edge }

  abbrev pub sharing : ℕ × ℕ → ℕ
  sharing p = common cap in_words p

  -- a row has the neighbours that the graph has, if not more
  degree_few : (x : ℕ) → degree cap in_words x ≤ shared_at cap rows live x
  degree_few x =
      count_le (λ w. edge x w) (λ w. has live w && has (get_or rows x zero) w) (upto cap) (λ w t. and_r (has live x) (has live w && has (get_or rows x zero) w) t)

  -- what is left of the live vertices: of those after one that is left only such are out as have too few neighbours to lead
  pub record Hoping (need left : ℕ) : Type 0 where
    pub within : (x : ℕ) → T (has left x) → T (has live x)
    pub behind : (x y : ℕ) → T (has left x) → T (has live y) → x < y → ¬ T (has left y) → shared_at cap rows live y < need

  module _ (best : Lead) (left u next near apart : ℕ) (rest : Hoping best.size left) (low : IsLowest cap left u) (out : IsWithout left u next)
      (is-near : IsMeet (get_or rows u zero) live near) (is-apart : IsLess next near apart) where
    next_after : (v : ℕ) → T (has next v) → T (has left v) × (u < v)
    next_after v t = let k = without_kept left u next v out t in (k.0, above k.0 k.1)
      where
        above : T (has left v) → v ≢ u → u < v
        above t q = go (dec_lt v u)
          where
            go : Dec (v < u) → u < v
            go (yes b) = absurd (low.least v b t)
            go (no b) = omega arith

    apart_open : (v : ℕ) → T (has apart v) → T (open? (u, v))
    apart_open v t =
        let s = subst T (is-apart v) t in
        let k = next_after v (and_l (has next v) (not (has near v)) s) in
        and_t (has live v && ltb u v) (not (has (get_or rows u zero) v && has live v)) (and_t (has live v) (ltb u v) (rest.within v k.0) (lt→ltb u v k.1))
        (subst (λ (b : Bool). T (not b)) (is-near v) (and_r (has next v) (not (has near v)) s))

    -- what u shares with one that is open to it, as the row has it
    row_shared : (v : ℕ) → T (open? (u, v)) → shared_at cap rows near v ≡ sharing (u, v)
    row_shared v t = count_agree cap (λ w. has near w && has (get_or rows v zero) w) (λ w. edge u w && edge v w) (λ w b. same w)
      where
        lu : has live u ≡ true
        lu = T→true (has live u) (rest.within u low.member)

        lv : has live v ≡ true
        lv = T→true (has live v) (and_l (has live v) (ltb u v) (and_l (has live v && ltb u v) (not (has (get_or rows u zero) v && has live v)) t))

        alike : (a b l : Bool) → ((a && l) && b) ≡ ((true && (l && a)) && (true && (l && b)))
        alike true true true = refl
        alike true false true = refl
        alike false true true = refl
        alike false false true = refl
        alike true true false = refl
        alike true false false = refl
        alike false true false = refl
        alike false false false = refl

        same : (w : ℕ) → (has near w && has (get_or rows v zero) w) ≡ (edge u w && edge v w)
        same w =
            ap (λ (t : Bool). t && has (get_or rows v zero) w) (is-near w) ∙ alike (has (get_or rows u zero) w) (has (get_or rows v zero) w) (has live w)
            ∙ sym (ap₂ (λ (s t : Bool). (s && (has live w && has (get_or rows u zero) w)) && (t && (has live w && has (get_or rows v zero) w))) lu lv)

    -- who is passed over as second has too few neighbours
    passed_few : (v : ℕ) → T (open? (u, v)) → ¬ T (has apart v) → shared_at cap rows near v < best.size
    passed_few v t q =
        omega (arith, row_shared v t, common_of_second cap in_words u v, degree_few v, rest.behind u v low.member (and_l (has live v) (ltb u v) s) b gone)
      where
        s : T (has live v && ltb u v)
        s = and_l (has live v && ltb u v) (not (has (get_or rows u zero) v && has live v)) t

        b : u < v
        b = ltb→lt u v (and_r (has live v) (ltb u v) s)

        gone : ¬ T (has left v)
        gone l =
            q (subst T (sym (is-apart v)) (and_t (has next v) (not (has near v)) (kept_without left u next v out l (λ e. let z : ⊥ = omega (arith, b) in z))
            (subst (λ (c : Bool). T (not c)) (sym (is-near v)) (and_r (has live v && ltb u v) (not (has (get_or rows u zero) v && has live v)) t))))

    -- so all that are open to u give what those give that are left
    row_same : over (lead (shared_at cap rows near) u) best (members (has apart) cap) ≡ over (lead (shared_at cap rows near) u) best (members (λ y. open? (u, y)) cap)
    row_same =
        (over_narrow (lead (shared_at cap rows near) u) (λ l. best.size ≤ l.size) (λ y. open? (u, y)) (has apart) apart_open
        (λ l v h. lead_grows (shared_at cap rows near) u l v best.size h)
        (λ l v h t q. lead_less (shared_at cap rows near) u l v (omega (arith, passed_few v t q))) cap best (omega arith)).0

    row_leads : (o : Option (ℕ × ℕ)) → Leads sharing best o → Leads sharing (over (lead (shared_at cap rows near) u) best (members (has apart) cap)) (row_lead sharing open? cap o u)
    row_leads o h =
        subst (λ (l : Lead). Leads sharing l (row_lead sharing open? cap o u)) (sym row_same)
        (leads_over sharing (shared_at cap rows near) u (members (λ y. open? (u, y)) cap) (λ v i. row_shared v (In-members (λ y. open? (u, y)) cap v i).1) best o h)

  -- ---- the loop over the rows

  -- what leads, and the rows that are left, give what all rows give
  pub record Scanned (best : Lead) (left : ℕ) : Type 0 where
    pub rest : Hoping best.size left
    pub top : Option (ℕ × ℕ)
    pub leads : Leads sharing best top
    pub same : over (row_lead sharing open? cap) top (members (has left) cap) ≡ over (row_lead sharing open? cap) none (members (has live) cap)

  pub scanned_none : Scanned (record { size = 0; u = 0; v = 0 }) live
  scanned_none = record { rest = record { within = λ x t. t; behind = λ x y t u b q. absurd (q u) }; top = none; leads = refl; same = refl }

  module _ (best : Lead) (left u next near apart : ℕ) (s : Scanned best left) (low : IsLowest cap left u) (out : IsWithout left u next)
      (m : IsMeet (get_or rows u zero) live near) (d : IsLess next near apart) (new : Lead) (e : new ≡ over (lead (shared_at cap rows near) u) best (members (has apart) cap))
      (kept : ℕ) (into : (v : ℕ) → T (has kept v) → T (has next v)) (few : (v : ℕ) → T (has next v) → ¬ T (has kept v) → shared_at cap rows live v < new.size) where
    abbrev top' : Option (ℕ × ℕ)
    top' = row_lead sharing open? cap s.top u

    leads' : Leads sharing new top'
    leads' = subst (λ (l : Lead). Leads sharing l top') (sym e) (row_leads best left u next near apart s.rest low out m d s.top s.leads)

    grown : best.size ≤ new.size
    grown =
        omega (arith, leads_reach sharing best s.top s.leads, leads_reach sharing new top' leads', row_grows sharing u (members (λ y. open? (u, y)) cap) s.top)

    behind' : (x y : ℕ) → T (has kept x) → T (has live y) → x < y → ¬ T (has kept y) → shared_at cap rows live y < new.size
    behind' x y t l b q = go (T? (has next y))
      where
        kx : T (has left x) × (x ≢ u)
        kx = without_kept left u next x out (into x t)

        go : Dec (T (has next y)) → shared_at cap rows live y < new.size
        go (yes n) = few y n q
        go (no n) =
            omega (arith, grown, s.rest.behind x y kx.0 l b (λ p. n (kept_without left u next y out p (λ z. low.least x (omega arith) kx.0))))

    pub scanned_next : Scanned new kept
    scanned_next = record {
      rest = record { within = λ x t. s.rest.within x (without_kept left u next x out (into x t)).0; behind = behind' };
      top = top';
      leads = leads';
      same = (over_narrow (row_lead sharing open? cap) (λ o. new.size ≤ reach sharing o) (has next) (has kept) into
          (λ o x h. omega (arith, row_grows sharing x (members (λ y. open? (x, y)) cap) o))
          (λ o x h t q. passed_over_first cap in_words x o (omega (arith, few x t q, degree_few x)) open? cap) cap top'
          (omega (arith, leads_reach sharing new top' leads'))).0
          ∙ over_next (row_lead sharing open? cap) s.top top' left u next low out refl ∙ s.same;
    }

-- neighbours go both ways
pub live_mutual : {cap : ℕ} (h : Node) → HeldAt cap h → Mutual h.rows h.live h.live
live_mutual h k w v tw tv = alike (T-ext ((view h).adj w v) ((view h).adj v w) (k.good.symm w v) (k.good.symm v w))
  where
    lw : has h.live w ≡ true
    lw = T→true (has h.live w) tw

    lv : has h.live v ≡ true
    lv = T→true (has h.live v) tv

    alike : (view h).adj w v ≡ (view h).adj v w → has (get_or h.rows w zero) v ≡ has (get_or h.rows v zero) w
    alike q =
        sym (ap₂ (λ (a b : Bool). a && (b && has (get_or h.rows w zero) v)) lw lv) ∙ q
        ∙ ap₂ (λ (a b : Bool). a && (b && has (get_or h.rows v zero) w)) lv lw

pub row_mutual : {cap : ℕ} (h : Node) → HeldAt cap h → (u left near apart : ℕ) → ((x : ℕ) → T (has left x) → T (has h.live x)) → IsMeet (get_or h.rows u zero) h.live near
    → IsLess left near apart → Mutual h.rows near apart
row_mutual h k u left near apart within wn wa w v tw tv =
    live_mutual h k w v (and_r (has (get_or h.rows u zero) w) (has h.live w) (subst T (wn w) tw)) (within v (and_l (has left v) (not (has near v)) (subst T (wa v) tv)))

-- the count that is held of a live vertex is that of its neighbours
pub degree_is : (h : Node) → Held h → (c : Counts) → Counted h.rows h.live c → (v : ℕ) → T (has h.live v) → value c v ≡ shared h.rows h.live v
degree_is h k c is v t = is v ∙ held_shared h.rows h.live h.live v (live_mutual h k) t

-- ---- all rows give the pair of the graph

over_agree : {A B : Type 0} (f g : B → A → B) (l : List A) → ((x : A) → In x l → (s : B) → f s x ≡ g s x) → (s : B) → over f s l ≡ over g s l
over_agree f g [] h s = refl
over_agree f g (x ∷ l) h s = ap (λ t. over f t l) (h x (inl refl) s) ∙ over_agree f g l (λ y i. h y (inr i)) (g s x)

module _ {cap : ℕ} (h : Node) (k : HeldAt cap h) where
  sharing_common : sharing cap h.rows h.live ≡ common h.n (view h)
  sharing_common =
      fun_ext (λ p. count_narrow (λ w. (view h).adj p.0 w && (view h).adj p.1 w) h.n cap k.few
      (λ w b t. held_beyond h k w b (and_l (has h.live w) (has (get_or h.rows p.0 zero) w)
      (and_r (has h.live p.0) (has h.live w && has (get_or h.rows p.0 zero) w) (and_l ((view h).adj p.0 w) ((view h).adj p.1 w) t)))))

  row_gaps : (x : ℕ) → T (has h.live x) → members (λ y. open? cap h.rows h.live (x, y)) cap ≡ members (λ y. gap h.n (view h) (x, y)) h.n
  row_gaps x t =
      members_narrow (λ y. open? cap h.rows h.live (x, y)) h.n cap k.few
      (λ y b s. held_beyond h k y b (and_l (has h.live y) (ltb x y) (and_l (has h.live y && ltb x y) (not (has (get_or h.rows x zero) y && has h.live y)) s)))
      ∙ members_agree h.n (λ y. open? cap h.rows h.live (x, y)) (λ y. gap h.n (view h) (x, y)) (λ y b. same y)
    where
      lx : has h.live x ≡ true
      lx = T→true (has h.live x) t

      alike : (l b r : Bool) → ((l && b) && not (r && l)) ≡ (b && (true && (l && not (true && (l && r)))))
      alike true true true = refl
      alike true true false = refl
      alike true false true = refl
      alike true false false = refl
      alike false true true = refl
      alike false true false = refl
      alike false false true = refl
      alike false false false = refl

      same : (y : ℕ) → open? cap h.rows h.live (x, y) ≡ gap h.n (view h) (x, y)
      same y =
          alike (has h.live y) (ltb x y) (has (get_or h.rows x zero) y)
          ∙ sym (ap₂ (λ (s t : Bool). ltb x y && (s && (t && not ((view h).adj x y)))) (sym (k.lives x) ∙ lx) (sym (k.lives y))
          ∙ ap (λ (s : Bool). ltb x y && (true && (has h.live y && not (s && (has h.live y && has (get_or h.rows x zero) y))))) lx)

  no_row : (x : ℕ) → ¬ T (live h.n (view h) x) → members (λ y. gap h.n (view h) (x, y)) h.n ≡ []
  no_row x q = members_none (λ y. gap h.n (view h) (x, y)) h.n (λ y b t. q (of_live h.n (view h) x (gap_chosen h.n (view h) x y t).live_u))

  pair_scan : over (row_lead (sharing cap h.rows h.live) (open? cap h.rows h.live) cap) none (members (has h.live) cap) ≡ pair h.n (view h)
  pair_scan =
      ap (λ f. over (row_lead f (open? cap h.rows h.live) cap) none (members (has h.live) cap)) sharing_common
      ∙ over_agree (row_lead (common h.n (view h)) (open? cap h.rows h.live) cap) (row_lead (common h.n (view h)) (gap h.n (view h)) h.n)
      (members (has h.live) cap)
      (λ x i o. ap (λ vs. over (after (common h.n (view h))) o (pairs x vs)) (row_gaps x (In-members (has h.live) cap x i).1)) none
      ∙ ap (over (row_lead (common h.n (view h)) (gap h.n (view h)) h.n) none) (held_members h k)
      ∙ sym (cross_lead (common h.n (view h)) (gap h.n (view h)) (live h.n (view h)) h.n h.n no_row none)
      ∙ over_greatest (common h.n (view h)) none (select (gap h.n (view h)) (cross h.n h.n))

  pub scanned_all : (best : Lead) (left : ℕ) → left ≡ 0 → Scanned cap h.rows h.live best left → Leads (sharing cap h.rows h.live) best (pair h.n (view h))
  scanned_all best left e s =
      subst (λ o. Leads (sharing cap h.rows h.live) best o)
      (sym (over_none cap (row_lead (sharing cap h.rows h.live) (open? cap h.rows h.live) cap) s.top left e) ∙ s.same ∙ pair_scan) s.leads

-- ---- the answer

pub leads_none : (f : ℕ × ℕ → ℕ) (l : Lead) (o : Option (ℕ × ℕ)) → Leads f l o → l.size ≡ 0 → none ≡ o
leads_none f l none h e = refl
leads_none f l (some p) h e = absurd (omega (arith, h.0))

pub leads_some : (f : ℕ × ℕ → ℕ) (l : Lead) (o : Option (ℕ × ℕ)) → Leads f l o → (l.size ≡ 0 → ⊥) → some (l.u, l.v) ≡ o
leads_some f l none h q = absurd (q h)
leads_some f l (some p) h q = ap₂ {A = ℕ} {B = ℕ} {C = Option (ℕ × ℕ)} (λ a b. some (a, b)) h.1 h.2
