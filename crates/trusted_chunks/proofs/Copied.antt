-- Bytes that are copied out of one chunk after the other.
use Rattle.std.proofs.Common.{◌≡◌, ℕ, ◌+◌, ◌-◌, ◌≤◌, min, List, [], ◌∷◌, ◌++◌, length, take, drop, map, refl, sym, ap, ◌∙◌, arith, length-append, length-drop, Some}
use Rattle.std.proofs.Math.Seq.{drop-append-add, drop-append_seam}
use Rattle.std.proofs.lemmas.List.{length-take-le, drop-drop, take_min, drop_min, append-nil}
use Rattle.std.proofs.lemmas.List.Folds.{concat-append}
use Rattle.std.proofs.lemmas.List.FromFn.{map-range_with_len_more}
use Rattle.std.specs.List.{range_with_len, concat}
use Rattle.pf_io.specs.Host.{KeepsRest}
use Rattle.trusted_chunks.specs.State.{Kept}
use Rattle.trusted_chunks.specs.Kept.{kept_at, joined, bytes_or_none}
use Rattle.trusted_chunks.proofs.Lists.{take_join, drop_join}

-- a part of n bytes was written from a place on
pub part_rest : (done n k : ℕ) (old part : List ℕ) → k ≡ n → done + n ≤ length old → length part ≡ n → KeepsRest (done + n) old (take done old ++ (part ++ drop k (drop done old)))
part_rest done n k old part is fits long =
    let front : length (take done old) ≡ done = length-take-le done old (omega arith) in
    let rest = drop k (drop done old) in
    record {
      within = fits;
      same_length = omega (arith, is, long, front, length-append (take done old) (part ++ rest), length-append part rest, length-drop k (drop done old), length-drop done old);
      rest = ap (λ (j : ℕ). drop (j + n) (take done old ++ (part ++ rest))) (sym front)
          ∙ drop-append-add (take done old) (part ++ rest) n
          ∙ ap (λ (j : ℕ). drop j (part ++ rest)) (sym long)
          ∙ drop-append_seam part rest
          ∙ ap (λ (j : ℕ). drop j (drop done old)) is
          ∙ drop-drop n done old
          ∙ ap (λ (j : ℕ). drop j old) (omega arith);
    }

-- what the bytes of one chunk more are
pub joined_more : (kept : Kept) (first m c : ℕ) (bytes : List ℕ) → first + m ≡ c → kept_at kept c ≡ Some bytes → joined kept (range_with_len first (m + 1)) ≡ joined kept (range_with_len first m) ++ bytes
joined_more kept first m c bytes is there =
    ap concat (map-range_with_len_more (λ d. bytes_or_none (kept_at kept d)) first m c is)
    ∙ concat-append (map (λ d. bytes_or_none (kept_at kept d)) (range_with_len first m)) (bytes_or_none (kept_at kept c) ∷ [])
    ∙ ap (λ (b : List ℕ). joined kept (range_with_len first m) ++ b) (append-nil (bytes_or_none (kept_at kept c)) ∙ ap bytes_or_none there)

-- after some chunks: how many bytes were copied, which ones, and how many are still to be skipped
pub record CopiedTo (kept : Kept) (first m skip : ℕ) (old : List ℕ) (done left : ℕ) (to : List ℕ) : Type 0 where
  pub count : done ≡ min (length old) (length (joined kept (range_with_len first m)) - skip)
  pub bytes : take done to ≡ take done (drop skip (joined kept (range_with_len first m)))
  pub rest : KeepsRest done old to
  pub skipped : left ≡ skip - length (joined kept (range_with_len first m))

pub none_copied : (kept : Kept) (first skip m : ℕ) (old : List ℕ) → m ≡ 0 → CopiedTo kept first m skip old 0 skip old
none_copied kept first skip m old is = rw is (record {
  count = omega arith;
  bytes = refl;
  rest = record { within = omega arith; same_length = refl; rest = refl };
  skipped = omega arith;
})

-- a piece more
copied_piece : (xs bytes : List ℕ) (skip done left start n room : ℕ) (to to' : List ℕ) → done ≡ min room (length xs - skip) → take done to ≡ take done (drop skip xs) → left ≡ skip - length xs → start ≡ min left (length bytes)
    → n ≡ min (room - done) (length bytes - start) → take (done + n) to' ≡ take done to ++ take n (drop start bytes) → take (done + n) to' ≡ take (done + n) (drop skip (xs ++ bytes))
copied_piece xs bytes skip done left start n room to to' count same skipped start_is n_is front =
    let x = drop skip xs in
    let y = drop start bytes in
    let long : length x ≡ length xs - skip = length-drop skip xs in
    let y_is : drop (skip - length xs) bytes ≡ y = ap (λ (j : ℕ). drop j bytes) (sym skipped) ∙ sym (drop_min left bytes) ∙ ap (λ (j : ℕ). drop j bytes) (sym start_is) in
    let all : drop skip (xs ++ bytes) ≡ x ++ y = drop_join skip xs bytes ∙ ap (λ (l : List ℕ). x ++ l) y_is in
    let mins : min (done + n) (length x) ≡ min done (length x) = omega (arith, long) in
    let fronts : take (done + n) x ≡ take done x = sym (take_min (done + n) x) ∙ ap (λ (j : ℕ). take j x) mins ∙ take_min done x in
    let behind : done + n - length x ≡ n = omega (arith, long) in
    front
    ∙ ap (λ (l : List ℕ). l ++ take n y) (same ∙ sym fronts)
    ∙ ap (λ (j : ℕ). take (done + n) x ++ take j y) (sym behind)
    ∙ sym (take_join (done + n) x y)
    ∙ ap (λ (l : List ℕ). take (done + n) l) (sym all)

pub copied_more : (kept : Kept) (first m m' skip c : ℕ) (old : List ℕ) (done left start n : ℕ) (to to' bytes : List ℕ) → CopiedTo kept first m skip old done left to → m' ≡ m + 1 → first + m ≡ c → kept_at kept c ≡ Some bytes
    → start ≡ min left (length bytes) → n ≡ min (length to - done) (length bytes - start) → take (done + n) to' ≡ take done to ++ take n (drop start bytes) → KeepsRest (done + n) to to'
    → CopiedTo kept first m' skip old (done + n) (left - start) to'
copied_more kept first m m' skip c old done left start n to to' bytes was one is there start_is n_is front rest =
    let xs = joined kept (range_with_len first m) in
    let all : joined kept (range_with_len first m') ≡ xs ++ bytes = ap (λ (j : ℕ). joined kept (range_with_len first j)) one ∙ joined_more kept first m c bytes is there in
    let long : length (joined kept (range_with_len first m')) ≡ length xs + length bytes = ap (λ (l : List ℕ). length l) all ∙ length-append xs bytes in
    let room : length to ≡ length old = was.rest.same_length in
    let n_room : n ≡ min (length old - done) (length bytes - start) = n_is ∙ ap (λ (r : ℕ). min (r - done) (length bytes - start)) room in
    record {
      count = let a = was.count in let b = was.skipped in omega (arith, a, b, long, n_room, start_is);
      bytes = copied_piece xs bytes skip done left start n (length old) to to' was.count was.bytes was.skipped start_is n_room front ∙ ap (λ (l : List ℕ). take (done + n) (drop skip l)) (sym all);
      rest = record {
        within = omega (arith, room, rest.within);
        same_length = rest.same_length ∙ room;
        rest = rest.rest ∙ more;
      };
      skipped = let b = was.skipped in omega (arith, b, long, start_is);
    }
  where
    more : drop (done + n) to ≡ drop (done + n) old
    more = ap (λ (j : ℕ). drop j to) (omega arith) ∙ sym (drop-drop n done to) ∙ ap (λ (l : List ℕ). drop n l) was.rest.rest ∙ drop-drop n done old ∙ ap (λ (j : ℕ). drop j old) (omega arith)
