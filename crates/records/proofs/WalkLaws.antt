-- The walk along a chain to a record's place: what is known at each entry, and what a stop there shows of the place.
-- By the laws of common beginnings and of chains. Assumes nothing.
use mathlib.Core.Path.{◌≡◌, sym, ap, ◌∙◌}
use mathlib.Core.Bool.{Bool, true, false}
use mathlib.Core.List.{List, [], ◌∷◌}
use Prim.Native.Nat.{ℕ, ◌+◌, ◌≤◌, ◌<◌}
use native.Mathlib.Omega.{arith}
use lib.Dec.{ltb}
use lib.ListN.{length}
use borrow.Author.Tests.{lt-ltb, le-ltb}
use Rattle.laws.specs.All.{All}
use Rattle.laws.proofs.Tests.{tested}
use Rattle.records.specs.Chains.{entry_at, ChainRoom}
use Rattle.records.specs.Words.{word_at, same_text}
use Rattle.records.specs.Order.{common, Agrees, first_with, link_place, text_before, Ordered, LinkedChain, Leads, PlaceOf}
use Rattle.records.proofs.CommonLaws.{common_empty, common-other, common-least}
use Rattle.records.proofs.DigestLaws.{same-equal}
use Rattle.records.proofs.PlacedLaws.{first-same, first_on, first-none, place_here, place-on, text-here, text-on}
use Rattle.records.proofs.LinkedLaws.{linked-one, steps-left, linked-steps-left}

module _ (t : ℕ → List ℕ) (n r head : ℕ) (s : List ℕ) where
  -- the place is to be found from the link at `at` on, behind an entry with the text `before`: the link is `link`, and leads to the entries that are left
  pub record Ahead (at shared link : ℕ) (before rest : List ℕ) : Type 0 where
    pub linked : LinkedChain t n s before link rest
    pub ordered : Ordered t before rest
    pub inside : All (λ e. e < r) rest
    pub short : length rest ≤ n
    pub shares : shared ≡ common before (t r)
    pub fits : at + 4 ≤ length s
    pub first : (chain : List ℕ) → LinkedChain t n s [] (word_at s head) chain → first_with t r chain ≡ first_with t r rest
    pub place : (chain : List ℕ) → LinkedChain t n s [] (word_at s head) chain → link_place t n r [] head chain ≡ link_place t n r before at rest
    pub text : (chain : List ℕ) → LinkedChain t n s [] (word_at s head) chain → text_before t r [] chain ≡ text_before t r before rest

  pub record Walk (at shared link : ℕ) : Type 0 where
    pub before : List ℕ
    pub rest : List ℕ
    pub ahead : Ahead at shared link before rest

  -- the walk stands before entry k
  pub record Here (at shared link k : ℕ) : Type 0 where
    pub before : List ℕ
    pub rest : List ℕ
    pub ahead : Ahead at shared link before (k ∷ rest)

  pub walk_start : Leads t n r head s → head + 4 ≤ length s → (v : ℕ) → v ≡ word_at s head → Walk head 0 v
  walk_start p h v e =
      record {
        before = [];
        rest = p.chain;
        ahead =
            record {
              linked = rw e p.linked;
              ordered = p.ordered;
              inside = p.inside;
              short = p.short;
              shares = sym (common_empty (t r));
              fits = h;
              first = λ c k. ap (first_with t r) (linked-one t n s [] (word_at s head) c p.chain k p.linked);
              place = λ c k. ap (link_place t n r [] head) (linked-one t n s [] (word_at s head) c p.chain k p.linked);
              text = λ c k. ap (text_before t r []) (linked-one t n s [] (word_at s head) c p.chain k p.linked);
            };
      }

  pub walk_here : (at shared link k : ℕ) → link ≡ k + 1 → Walk at shared link → Here at shared link k
  walk_here at shared link k z w = go w.rest w.ahead
    where
      go : (rest : List ℕ) → Ahead at shared link w.before rest → Here at shared link k
      go [] l = absurd (omega (arith, l.linked))
      go (e ∷ rest) l =
          let q : e ≡ k = omega (arith, l.linked.0) in
          record { before = w.before; rest = rest; ahead = rw q at l }

  -- at the end
  pub walk_end : (at shared link : ℕ) → link ≤ 0 → Walk at shared link → PlaceOf t n r head s r at shared
  unfolding first_with link_place text_before
  walk_end at shared link z w = go w.rest w.ahead
    where
      go : (rest : List ℕ) → Ahead at shared link w.before rest → PlaceOf t n r head s r at shared
      go [] l = λ c k.
          record {
            found = sym (l.first c k);
            there = λ q. sym (l.place c k);
            shares = λ q. l.shares ∙ ap (λ (u : List ℕ). common u (t r)) (sym (l.text c k));
          }
      go (e ∷ rest) l = absurd (omega (arith, l.linked.0))

  module _ (at shared link k : ℕ) (w : Here at shared link k) where
    pub here-below : k < r
    here-below = w.ahead.inside.0

    pub here-inside : ChainRoom n s → r < n → entry_at n k + 8 ≤ length s
    here-inside room hr = omega (arith, room.room, here-below)

    -- what stands there
    module _ (v : ℕ) (ev : v ≡ word_at s (entry_at n k)) where
      word-is : v ≡ common w.before (t k)
      word-is = ev ∙ w.ahead.linked.1

      pub stops : v < shared → PlaceOf t n r head s r at shared
      stops h c l =
          let less : common w.before (t k) < common w.before (t r) = omega (arith, word-is, w.ahead.shares) in
          let y : ltb (common w.before (t k)) (common w.before (t r)) ≡ true = lt-ltb _ _ less in
          record {
            found = sym (w.ahead.first c l ∙ first-none t r w.before k w.rest w.ahead.ordered less);
            there = λ q. sym (w.ahead.place c l ∙ place_here t r w.before k w.rest n at y);
            shares = λ q. w.ahead.shares ∙ ap (λ (u : List ℕ). common u (t r)) (sym (w.ahead.text c l ∙ text-here t r w.before k w.rest y));
          }

      pub agrees_from : v ≡ shared → shared ≤ common (t k) (t r)
      agrees_from e =
          common-least shared w.before (t r) (t k) (omega (arith, w.ahead.shares)) (omega (arith, word-is))

      pub walk_found : (bytes : ℕ) (whole : Bool) → Agrees (t k) (t r) bytes whole → whole ≡ true → PlaceOf t n r head s k at shared
      walk_found bytes whole a y c l =
          record {
            found = sym (w.ahead.first c l ∙ first-same t r [] k w.rest (sym a.same ∙ y));
            there = λ q. absurd (omega (arith, here-below));
            shares = λ q. absurd (omega (arith, here-below));
          }

      -- further on: r shares so much with entry k
      module _ (shared' link' : ℕ) (room : ChainRoom n s) (hr : r < n) (le : shared ≤ v) (other : same_text (t k) (t r) ≡ false) (es : shared' ≡ common (t k) (t r))
          (ea : link' ≡ word_at s (entry_at n k + 4)) where
        more : ltb (common w.before (t k)) (common w.before (t r)) ≡ false
        more = le-ltb (common w.before (t k)) (common w.before (t r)) (omega (arith, word-is, w.ahead.shares))

        on : Walk (entry_at n k + 4) shared' link'
        on =
            record {
              before = t k;
              rest = w.rest;
              ahead =
                  record {
                    linked = rw ea w.ahead.linked.2;
                    ordered = w.ahead.ordered.1;
                    inside = w.ahead.inside.1;
                    short = omega (arith, w.ahead.short);
                    shares = es;
                    fits = omega (arith, room.room, here-below);
                    first = λ c l. w.ahead.first c l ∙ first_on t r [] k w.rest other;
                    place = λ c l. w.ahead.place c l ∙ place-on t r w.before k w.rest n at more;
                    text = λ c l. w.ahead.text c l ∙ text-on t r w.before k w.rest more;
                  };
            }

      pub walk_compared : (bytes : ℕ) (whole : Bool) (shared' link' : ℕ) → ChainRoom n s → r < n → v ≡ shared → Agrees (t k) (t r) bytes whole → whole ≡ false
          → shared' ≡ bytes → link' ≡ word_at s (entry_at n k + 4) → Walk (entry_at n k + 4) shared' link'
      walk_compared bytes whole shared' link' room hr e a m es ea = on shared' link' room hr (omega arith) (sym a.same ∙ m) (es ∙ a.far) ea

      pub walk_past : (shared' link' : ℕ) → ChainRoom n s → r < n → shared ≤ v → (v ≡ shared → ⊥) → shared' ≡ shared → link' ≡ word_at s (entry_at n k + 4)
          → Walk (entry_at n k + 4) shared' link'
      walk_past shared' link' room hr le ne es ea =
          let less : common w.before (t r) < common w.before (t k) = omega (arith, word-is, w.ahead.shares) in
          on shared' link' room hr le
          (tested (same_text (t k) (t r))
          (λ y. absurd (let z : common w.before (t k) ≡ common w.before (t r) = ap (common w.before) (same-equal _ _ y) in omega arith))
          (λ m. m))
          (es ∙ w.ahead.shares ∙ sym (common-other w.before (t r) (t k) less))
          ea

    -- each step leaves one entry less
    pub walk_less : (link' : ℕ) → link' ≡ word_at s (entry_at n k + 4) → steps-left t n s n link' < steps-left t n s n link
    walk_less link' ea =
        omega (
          arith,
          linked-steps-left t n s w.before link (k ∷ w.rest) n w.ahead.linked w.ahead.short,
          linked-steps-left t n s (t k) link' w.rest n (rw ea w.ahead.linked.2) (omega (arith, w.ahead.short)),
        )
