-- What was asked of a host by the copying of nodes.
use Rattle.std.proofs.Common.{◌≡◌, ℕ, ◌*◌, ◌<◌, List, [], ◌∷◌, ◌++◌, length, replicate, refl, ap, ◌∙◌, sym, subst, arith, append_assoc, length-append, Result, Ok, Err}
use Rattle.std.proofs.lemmas.List.{length-replicate}
use Rattle.std.proofs.lemmas.List.Elements.{All-nil, All-cons, All-append}
use Rattle.node_layout.specs.declared.damage.Kind.TheVariants.{Short}
use Rattle.pf_io.specs.Disk.{Name}
use Rattle.pf_io.specs.Host.{Answer, Gave, Wrote, HostState}
use Rattle.pf_session.specs.Asking.{NoCall, AReading, AWriting, Asked}
use Rattle.pf_session.specs.Copying.{copied, AreBlocksOf, Copied, CopyShort, CopyGoes}
use Rattle.pf_session.specs.declared.fault.FlushFault.{FlushFault}
use Rattle.pf_session.specs.declared.fault.FlushFault.TheVariants as faults
use Rattle.pf_session.proofs.Calls.{asked_none, asked_then, same_asked, same_stopped, stopped_then, stopped_more, stopped_first}

blocks_none : AreBlocksOf [] []
blocks_none = record { one_each = refl; whole = All-nil (λ block. length block ≡ 4096) }

blocks_one : (k : ℕ) (block : List ℕ) → length block ≡ 4096 → AreBlocksOf (k ∷ []) (block ∷ [])
blocks_one k block long = record { one_each = refl; whole = All-cons (λ b. length b ≡ 4096) block [] long (All-nil (λ b. length b ≡ 4096)) }

blocks_then : (xs ys : List ℕ) (bs cs : List (List ℕ)) → AreBlocksOf xs bs → AreBlocksOf ys cs → AreBlocksOf (xs ++ ys) (bs ++ cs)
blocks_then xs ys bs cs one two = record {
  one_each = let a = one.one_each in let b = two.one_each in omega (arith, length-append bs cs, length-append xs ys);
  whole = All-append (λ b. length b ≡ 4096) bs cs one.whole two.whole;
}

-- any blocks, for nodes that were not read
pub any_blocks : (xs : List ℕ) → (blocks : List (List ℕ)) × AreBlocksOf xs blocks
any_blocks [] = ([], blocks_none)
any_blocks (k ∷ xs) = let rest = any_blocks xs in (replicate 4096 0 ∷ rest.0, blocks_then (k ∷ []) xs (replicate 4096 0 ∷ []) rest.0 (blocks_one k (replicate 4096 0) (length-replicate {A = ℕ} 4096 0)) rest.1)

pub copied_append : (from to : Name) (xs ys : List ℕ) (bs cs : List (List ℕ)) → length bs ≡ length xs → copied from to (xs ++ ys) (bs ++ cs) ≡ copied from to xs bs ++ copied from to ys cs
copied_append from to [] ys [] cs same = refl
copied_append from to [] ys (b ∷ bs) cs same = absurd (omega arith)
copied_append from to (x ∷ xs) ys [] cs same = absurd (omega arith)
copied_append from to (x ∷ xs) ys (b ∷ bs) cs same = ap (λ (l : List Answer). Gave from (4096 * x) 4096 b ∷ Wrote to (4096 * x) b ∷ l) (copied_append from to xs ys bs cs (omega arith))

module _ (from to : Name) where
  -- no node
  pub copied_none : (state : HostState) → Copied from to [] state state
  copied_none state = record { blocks = []; are_blocks = blocks_none; asked = asked_none state }

  pub node_copied : (k : ℕ) (block : List ℕ) (old mid new : HostState) → length block ≡ 4096 → Asked (Gave from (4096 * k) 4096 block ∷ []) NoCall old mid → Asked (Wrote to (4096 * k) block ∷ []) NoCall mid new → Copied from to (k ∷ []) old new
  node_copied k block old mid new long reads writes = record { blocks = block ∷ []; are_blocks = blocks_one k block long; asked = asked_then (Gave from (4096 * k) 4096 block ∷ []) (Wrote to (4096 * k) block ∷ []) NoCall old mid new reads writes }

  pub node_unread : (k : ℕ) (fault : FlushFault) (old new : HostState) → fault ≡ faults.Host → Asked [] AReading old new → CopyGoes (Err fault) from to (k ∷ []) old new
  node_unread k fault old new is asked =
      subst (λ (f : FlushFault). CopyGoes (Err f) from to (k ∷ []) old new) (sym is) (record {
        blocks = replicate 4096 0 ∷ [];
        are_blocks = blocks_one k (replicate 4096 0) (length-replicate {A = ℕ} 4096 0);
        stopped = stopped_first (Gave from (4096 * k) 4096 (replicate 4096 0)) (Wrote to (4096 * k) (replicate 4096 0) ∷ []) old new asked;
      })

  pub node_unwritten : (k : ℕ) (fault : FlushFault) (block : List ℕ) (old mid new : HostState) → fault ≡ faults.Host → length block ≡ 4096 → Asked (Gave from (4096 * k) 4096 block ∷ []) NoCall old mid → Asked [] AWriting mid new
      → CopyGoes (Err fault) from to (k ∷ []) old new
  node_unwritten k fault block old mid new is long reads asked =
      subst (λ (f : FlushFault). CopyGoes (Err f) from to (k ∷ []) old new) (sym is) (record {
        blocks = block ∷ [];
        are_blocks = blocks_one k block long;
        stopped = stopped_then (Gave from (4096 * k) 4096 block ∷ []) (Wrote to (4096 * k) block ∷ []) old mid new reads (stopped_first (Wrote to (4096 * k) block) [] mid new asked);
      })

  pub node_short : (k : ℕ) (block : List ℕ) (old new : HostState) → length block < 4096 → Asked (Gave from (4096 * k) 4096 block ∷ []) NoCall old new → CopyShort from to (k ∷ []) (record { node = k; kind = Short }) old new
  node_short k block old new few reads = record { done = []; left = []; blocks = []; block = block; in_order = refl; are_blocks = blocks_none; short = few; kind_is = refl; asked = reads }

  module _ (xs ys : List ℕ) where
    pub copied_then : (old mid new : HostState) → Copied from to xs old mid → Copied from to ys mid new → Copied from to (xs ++ ys) old new
    copied_then old mid new first second = record {
      blocks = first.blocks ++ second.blocks;
      are_blocks = blocks_then xs ys first.blocks second.blocks first.are_blocks second.are_blocks;
      asked = same_asked _ _ NoCall old new (sym (copied_append from to xs ys first.blocks second.blocks first.are_blocks.one_each))
          (asked_then (copied from to xs first.blocks) (copied from to ys second.blocks) NoCall old mid new first.asked second.asked);
    }

    -- nodes after others
    pub goes_then : (r : Result (Unit {0}) FlushFault) (old mid new : HostState) → Copied from to xs old mid → CopyGoes r from to ys mid new → CopyGoes r from to (xs ++ ys) old new
    goes_then (Ok done) old mid new first second = copied_then old mid new first second
    goes_then (Err faults.Words) old mid new first second = second
    goes_then (Err (faults.Damaged damage)) old mid new first second = record {
      done = xs ++ second.done;
      left = second.left;
      blocks = first.blocks ++ second.blocks;
      block = second.block;
      in_order = ap (λ (l : List ℕ). xs ++ l) second.in_order ∙ sym (append_assoc xs second.done (damage.node ∷ second.left));
      are_blocks = blocks_then xs second.done first.blocks second.blocks first.are_blocks second.are_blocks;
      short = second.short;
      kind_is = second.kind_is;
      asked =
          let last = Gave from (4096 * damage.node) 4096 second.block ∷ [] in
          same_asked _ _ NoCall old new
          (sym (append_assoc (copied from to xs first.blocks) (copied from to second.done second.blocks) last)
          ∙ ap (λ (l : List Answer). l ++ last) (sym (copied_append from to xs second.done first.blocks second.blocks first.are_blocks.one_each)))
          (asked_then (copied from to xs first.blocks) (copied from to second.done second.blocks ++ last) NoCall old mid new first.asked second.asked);
    }
    goes_then (Err faults.Host) old mid new first second = record {
      blocks = first.blocks ++ second.blocks;
      are_blocks = blocks_then xs ys first.blocks second.blocks first.are_blocks second.are_blocks;
      stopped = same_stopped _ _ old new (sym (copied_append from to xs ys first.blocks second.blocks first.are_blocks.one_each))
          (stopped_then (copied from to xs first.blocks) (copied from to ys second.blocks) old mid new first.asked second.stopped);
    }

    -- nodes that were not come to
    pub goes_more : (fault : FlushFault) (old new : HostState) → CopyGoes (Err fault) from to xs old new → CopyGoes (Err fault) from to (xs ++ ys) old new
    goes_more faults.Words old new first = first
    goes_more (faults.Damaged damage) old new first = record {
      done = first.done;
      left = first.left ++ ys;
      blocks = first.blocks;
      block = first.block;
      in_order = ap (λ (l : List ℕ). l ++ ys) first.in_order ∙ append_assoc first.done (damage.node ∷ first.left) ys;
      are_blocks = first.are_blocks;
      short = first.short;
      kind_is = first.kind_is;
      asked = first.asked;
    }
    goes_more faults.Host old new first =
        let any = any_blocks ys in
        record {
          blocks = first.blocks ++ any.0;
          are_blocks = blocks_then xs ys first.blocks any.0 first.are_blocks any.1;
          stopped = same_stopped _ _ old new (sym (copied_append from to xs ys first.blocks any.0 first.are_blocks.one_each)) (stopped_more (copied from to xs first.blocks) (copied from to ys any.0) old new first.stopped);
        }
