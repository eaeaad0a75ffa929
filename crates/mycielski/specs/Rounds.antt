-- Document 01, "The two bounds": the Mycielskian bound of a node (document 000, Algorithm 1, with its free choices fixed).
--
--   Part             : H: some of the graph's vertices, and edges of its own between some of them
--   every_edge p     : the vertices that pass p, with every edge between two of them
--   near_all n g q x : x is a vertex that is adjacent to every y that passes q
--   of_s n g h v x   : x is in S(v): a vertex that is adjacent to every H-neighbour of v
--   offers n g h w v x : x is in S(v) and adjacent to w
--   of_w_lem n g h w : w is in W: a vertex that is adjacent, for each v in H, to some member of S(v)
--   chosen n g h w v : the lowest member of S(v) that is adjacent to w
--   tied n g h w v x y : x is the member chosen for v, and y is w or an old H-neighbour of v
--   extend n g h w   : H with w and the chosen members; w tied to each of them, and each to the old H-neighbours of its v
--   full n g h       : H has as many vertices as the graph
--   round t o b next : b, where H is full (t) or W is empty (o has none); else what comes next of the lowest w of W
--   rounds n g k h b : the bound after at most k rounds from H, with bound b
--   limit n          : as many rounds as are always enough: more change nothing (`mycielskian_end` of proofs/RoundLaws.antt)
--   mycielskian n g  : the bound, from H the clique and b its size; the rounds are limited by the bound itself
--
-- Assumes nothing.
use Rattle.std.specs.Prelude.{Bool, true, false, not, ◌&&◌, ◌||◌, ℕ, zero, suc, eqb, leb, length}
use Rattle.std.proofs.Math.Option.{Option, none, some, get_or}
use Rattle.sets.specs.Lists.{count, all, any, upto, lowest}
use Rattle.graphs.specs.Graph.{Graph, live, vertices}
use Rattle.cliques.specs.Clique.{is_in, clique}

pub record Part : Type 0 where
  pub vert : ℕ → Bool
  pub edge : ℕ → ℕ → Bool

abbrev pub every_edge : (ℕ → Bool) → Part
every_edge p = record { vert = p; edge = λ x y. p x && (p y && not (eqb x y)) }

abbrev pub near_all : ℕ → Graph → (ℕ → Bool) → ℕ → Bool
near_all n g q x = live n g x && all n (λ y. not (q y) || g.adj x y)

abbrev pub of_s : ℕ → Graph → Part → ℕ → ℕ → Bool
of_s n g h v x = near_all n g (h.edge v) x

abbrev pub offers : ℕ → Graph → Part → ℕ → ℕ → ℕ → Bool
offers n g h w v x = of_s n g h v x && g.adj w x

abbrev pub of_w_lem : ℕ → Graph → Part → ℕ → Bool
of_w_lem n g h w = live n g w && all n (λ v. not (h.vert v) || any n (offers n g h w v))

abbrev pub chosen : ℕ → Graph → Part → ℕ → ℕ → ℕ
chosen n g h w v = get_or (lowest (offers n g h w v) n) zero

abbrev pub tied : ℕ → Graph → Part → ℕ → ℕ → ℕ → ℕ → Bool
tied n g h w v x y = eqb x (chosen n g h w v) && (eqb y w || h.edge v y)

abbrev pub extend : ℕ → Graph → Part → ℕ → Part
extend n g h w = record {
  vert = λ x. h.vert x || (eqb x w || any n (λ v. h.vert v && eqb x (chosen n g h w v)));
  edge = λ x y. h.edge x y || any n (λ v. h.vert v && (tied n g h w v x y || tied n g h w v y x));
}

abbrev pub full : ℕ → Graph → Part → Bool
full n g h = leb (length (vertices n g)) (count h.vert (upto n))

abbrev pub round : Bool → Option ℕ → ℕ → (ℕ → ℕ) → ℕ
round true o b next = b
round false none b next = b
round false (some w) b next = next w

abbrev pub rounds : ℕ → Graph → ℕ → Part → ℕ → ℕ
rounds n g zero h b = b
rounds n g (suc k) h b = round (full n g h) (lowest (of_w_lem n g h) n) b (λ w. rounds n g k (extend n g h w) (suc b))

abbrev pub limit : ℕ → ℕ
limit n = suc n

unfoldable pub mycielskian : ℕ → Graph → ℕ
mycielskian n g = rounds n g (limit n) (every_edge (λ x. is_in x (clique n g))) (length (clique n g))
