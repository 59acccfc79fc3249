-- What a sealing comes to, however it ends.
use Rattle.std.proofs.Common.{◌≡◌, ◌≢◌, ◌⊎◌, inl, inr, ⊎_elim, ℕ, ◌+◌, ◌<◌, ◌≤◌, Bool, true, false, List, [], ◌∷◌, ◌++◌, length, filter, refl, sym, ap, ap₂, subst, ◌∙◌, arith, append_assoc, length-append, Option, Some, None, IfSome, Result, Ok, Err}
use Rattle.std.specs.List.{concat}
use Rattle.std.proofs.lemmas.List.{append-nil}
use Rattle.std.proofs.lemmas.List.Elements.{filter-append}
use Rattle.std.proofs.lemmas.Option.{IfSome_then}
use Rattle.node_layout.specs.Metadata.{MOST_SIZE}
use Rattle.node_tree.specs.Next.{NextSheet}
use Rattle.node_tree.specs.Sheet.{Sheet}
use Rattle.node_tree.specs.State.{TreeState}
use Rattle.pf_io.specs.Counts.{counted}
use Rattle.pf_io.specs.Disk.{Name, Files}
use Rattle.pf_io.specs.Host.{Answer, Swapped, HostState, Both, IsMore, OnDisk, OnHonest, files_of, contents}
use Rattle.pf_io.specs.Moments.{Ran, Ends, Where}
use Rattle.pf_io.specs.Names.{side_of}
use Rattle.pf_io.specs.Words.{WordsState}
use Rattle.pf_io.proofs.Telling.{both_then, both_weaker, told_on}
use Rattle.pf_io.proofs.Writing.{once_after}
use Rattle.pf_session.specs.Asking.{NoCall, AnotherCall, Asked, Took}
use Rattle.pf_session.specs.Aside.{ChangesTwo}
use Rattle.pf_session.specs.Creating.{BeginsOn, empty_sheet, empty_node}
use Rattle.pf_session.specs.Drawing.{WordsCame}
use Rattle.pf_session.specs.Ending.{PublishGoes, Publishes, PublishesEach, not_named, published}
use Rattle.pf_session.specs.Ending as ending
use Rattle.pf_session.specs.Flushing.{SealGoes, node_short, call_failed, flushed, FlushDone}
use Rattle.pf_session.specs.Placing.{make_steps}
use Rattle.pf_session.specs.Reopening.{HasSheet}
use Rattle.pf_session.specs.Restored.{KeepsBeside}
use Rattle.pf_session.specs.State.{SessionState}
use Rattle.pf_session.specs.Steps.{seal_steps, steps_by, flush_steps}
use Rattle.pf_session.specs.declared.fault.BesideFault.{BesideFault}
use Rattle.pf_session.specs.declared.fault.BesideFault.TheVariants as besides
use Rattle.pf_session.specs.declared.fault.FlushFault.{FlushFault}
use Rattle.pf_session.specs.declared.fault.FlushFault.TheVariants as flushes
use Rattle.pf_session.proofs.Words.{took_then}
use Rattle.pf_tool.specs.Faults.{beside_fault, flush_fault}
use Rattle.pf_tool.specs.Runs.{OutputLeft, OutputEnds}
use Rattle.pf_tool.specs.SealedContents.{is_piece_of, piece_answers, TakenInPieces, SealedLast}
use Rattle.pf_tool.specs.SealingInput.{InputWritten, SealsInput, not_begun, not_copied, not_published, sealed}
use Rattle.pf_tool.specs.declared.fault.Fault.{Fault}
use Rattle.pf_tool.specs.declared.fault.Fault.TheVariants as faults
use Rattle.pf_tool.specs.declared.why.Why.TheVariants as whys
use Rattle.pf_tool.proofs.PieceAnswers.{TellsPieces, tells_none, tells_then, none_of_flush, none_of_make}
use Rattle.pf_tool.proofs.SessionBegun.{Begun, has_begun}
use Rattle.pf_tool.proofs.SessionWrites.{write_grows}
use Rattle.pf_tool.proofs.SheetWrites.{Standing, alone_then}
use Rattle.pf_tool.proofs.InputStands.{IsCopied, is_copied, begun_stands, input_of, alone_read}
use Rattle.pf_tool.proofs.SealCounts.{CountsFault, counts_after, Fails, beside_fails, flush_fails}
use Rattle.pf_tool.proofs.SealStops.{TellsUpTo, IsLargeIf, Stops, stops_so}
use Rattle.pf_tool.proofs.SealDisks.{HasVersion, done_left, tried_left}

abbrev pub Large : Result (Unit {0}) Fault
Large = Err (faults.Refused whys.TooLarge)

abbrev pub CountsEnd : Result (Unit {0}) Fault → HostState → HostState → WordsState → WordsState → Type 0
CountsEnd (Ok done) before after random random' = (after.faults ≡ before.faults) × (random'.faults ≡ random.faults)
CountsEnd (Err fault) before after random random' = CountsFault fault before after random random'

-- the pieces that were given are no more than a content may have, or it is refused
abbrev pub TellsEnd : Name → Result (Unit {0}) Fault → List Answer → List Answer → Type 0
TellsEnd input ended before now = (these : List Answer) × (now ≡ before ++ these) × (pieces : List (List ℕ)) × (filter (is_piece_of input) these ≡ piece_answers input 0 pieces) × ((length (concat pieces) ≤ MOST_SIZE) ⊎ (ended ≡ Large))

-- what is said of the file's size
pub record SizeOver (ended : Result (Unit {0}) Fault) (file : List ℕ) : Type 0 where
  pub fits : ended ≡ Ok tt → length file ≤ MOST_SIZE
  pub large : ended ≡ Large → MOST_SIZE < length file

-- the output may be new: it is done, or the host failed
abbrev pub MayBe : Result (Unit {0}) Fault → HostState → HostState → Type 0
MayBe ended before after = (ended ≡ Ok tt) ⊎ (after.faults ≡ counted before.faults)

pub data SealDisk (user : List ℕ) (input output : Name) (ended : Result (Unit {0}) Fault) (before after : HostState) : Type 0 where
  kept_out : (ended ≡ Ok tt → ⊥) → KeepsBeside output before after → SealDisk user input output ended before after
  new_out : (content : List ℕ) → OnHonest before (λ files. content ≡ contents (files input))
      → OnDisk before after (Ran (OutputLeft output (λ _. HasVersion user output content) (MayBe ended before after)) (OutputEnds output (λ _. HasVersion user output content) (MayBe ended before after) (ended ≡ Ok tt)))
      → SealDisk user input output ended before after

-- what was given and sealed
abbrev pub TellsSealed : List ℕ → Name → Name → WordsState → WordsState → List Answer → List Answer → Type 0
TellsSealed user input output old new before now = (these : List Answer) × (now ≡ before ++ these) × (content : List ℕ) × TakenInPieces input these content × SealedLast user output content these old new

pub record Sealing (user : List ℕ) (input output : Name) (ended : Result (Unit {0}) Fault) (before after : HostState) (random random' : WordsState) : Type 0 where
  pub counts : CountsEnd ended before after random random'
  pub told : Both before.given after.given (TellsEnd input ended)
  pub over : OnHonest before (λ files. SizeOver ended (contents (files input)))
  pub disk : SealDisk user input output ended before after
  pub gave : ended ≡ Ok tt → Both before.given after.given (TellsSealed user input output random random')

as_err : (fault : Fault) (ended : Result (Unit {0}) Fault) → ended ≡ Err fault → ended ≡ Ok tt → ⊥
as_err fault ended is same = cc

not_large : (o : Option Files) (input : Name) (ended : Result (Unit {0}) Fault) → (ended ≡ Ok tt → ⊥) → (ended ≡ Large → ⊥) → IfSome o (λ files. SizeOver ended (contents (files input)))
not_large (Some files) input ended never other = record { fits = λ is. absurd (never is); large = λ is. absurd (other is) }
not_large None input ended never other = tt

large_fault : (fault : Fault) → ◌≡◌ {A = Result (Unit {0}) Fault} (Err fault) Large → fault ≡ faults.Refused whys.TooLarge
large_fault fault same = cc

beside_not_large : (why : BesideFault) → ◌≡◌ {A = Result (Unit {0}) Fault} (Err (beside_fault why)) Large → (why ≢ besides.BadName) → ⊥
beside_not_large besides.BadName same other = absurd (cc)
beside_not_large besides.Memory same other = absurd (cc)
beside_not_large besides.Words same other = absurd (cc)
beside_not_large besides.Host same other = absurd (cc)

flush_not_large : (why : FlushFault) → ◌≡◌ {A = Result (Unit {0}) Fault} (Err (flush_fault why)) Large → ⊥
flush_not_large flushes.Words same = absurd (cc)
flush_not_large (flushes.Damaged damage) same = absurd (cc)
flush_not_large flushes.Host same = absurd (cc)

module _ (user : List ℕ) (input output : Name) (ne : input ≢ side_of output) (before after : HostState) (random random' : WordsState) where
  -- nothing was made
  begun_not : (why : BesideFault) → why ≢ besides.BadName → Fails input output (beside_fault why) before after random random' → Sealing user input output (Err (beside_fault why)) before after random random'
  begun_not why other fails = record {
    counts = fails.counts;
    told = both_weaker (TellsPieces input 0 []) (TellsEnd input (Err (beside_fault why))) before.given after.given (fails.told 0) (λ a b t. (t.0, t.1, [], t.2, inl (omega arith)));
    over = not_large (files_of before) input (Err (beside_fault why)) (λ is. absurd (cc)) (λ is. beside_not_large why is other);
    disk = kept_out (λ is. absurd (cc)) fails.alone;
    gave = λ is. absurd (cc);
  }

  module _ (begun : HostState) (words : WordsState) (session : SessionState) (b : Begun user output session before begun random words) where
    abbrev First : Sheet
    First = empty_sheet output b.nonce

    begun_told : Both before.given begun.given (TellsPieces input 0 [])
    begun_told = tells_none input 0 (make_steps (side_of output) (empty_node user output b.nonce)) before begun (none_of_make input (side_of output) (empty_node user output b.nonce)) b.asked.told

    begun_has : OnDisk before begun (Ends (λ _. HasSheet user (side_of output) First))
    begun_has = both_weaker (Ends (BeginsOn user output First)) (Ends (λ _. HasSheet user (side_of output) First)) before.honest begun.honest b.begins (λ a c on. on.has_sheet)

    -- the input was not copied
    copied_not : (fault : Fault) → Stops input output fault begun after words random' → Sealing user input output (Err fault) before after random random'
    copied_not fault stops = record {
      counts = counts_after fault before begun after random words random' b.asked.faults b.drawn.took.calm stops.counts;
      told = both_then (TellsPieces input 0 []) (TellsUpTo input fault) (TellsEnd input (Err fault)) before.given begun.given after.given begun_told stops.told
          (λ a c d one two. (
            one.0 ++ two.0,
            two.1 ∙ ap (λ (l : List Answer). l ++ two.0) one.1 ∙ append_assoc a one.0 two.0,
            two.2,
            filter-append (is_piece_of input) one.0 two.0 ∙ ap (λ (l : List Answer). l ++ filter (is_piece_of input) two.0) one.2 ∙ two.3,
            ⊎_elim (λ fits. inl fits.0) (λ large. inr (ap Err large.0)) two.4,
          ));
      over = IfSome_then (files_of before) (alone_read output input (λ file. IsLargeIf fault (contents file)) before begun ne b.alone (stops.large ne)) (λ (files : Files) large. record { fits = λ is. absurd (cc); large = λ is. large (large_fault fault is) });
      disk = kept_out (λ is. absurd (cc)) (alone_then output before begun after b.alone stops.alone);
      gave = λ is. absurd (cc);
    }

    -- all of the input was copied
    module _ (content : List ℕ) (whole : SessionState) (copied : HostState) (more : WordsState) (written : InputWritten input content session whole begun copied words more) where
      abbrev started : Standing user output First [] session
      started = begun_stands user output session before begun random words b

      abbrev c : IsCopied input user output First content whole begun copied words more
      c = is_copied input user output First session begun words started content whole copied more written

      abbrev Given : List (List ℕ)
      Given = c.whole ++ c.last ∷ []

      copied_told : Both before.given copied.given (TellsPieces input 0 Given)
      copied_told = tells_then input 0 [] Given before begun copied begun_told c.went.told

      copied_alone : KeepsBeside output before copied
      copied_alone = alone_then output before begun copied b.alone c.went.alone

      copied_calm : copied.faults ≡ before.faults
      copied_calm = c.went.calm ∙ b.asked.faults

      -- the words of the first nonce, and those of flushes
      abbrev Earlier : List (List ℕ)
      Earlier = (b.drawn.first ∷ b.drawn.second ∷ []) ++ c.went.drew

      earlier_took : Took Earlier random more
      earlier_took = took_then (b.drawn.first ∷ b.drawn.second ∷ []) c.went.drew random words more b.drawn.took c.went.took

      words_calm : more.faults ≡ random.faults
      words_calm = earlier_took.calm

      small : length (concat Given) ≤ MOST_SIZE
      small =
          let w = written.wrote in
          let fit = (write_grows w.written (length written.earlier) written.last written.mid whole w.between copied written.words more w.wrote).fit.small in
          let same = ap (λ (l : List ℕ). length l) (c.together ∙ written.content_is) in
          omega (arith, fit, same, length-append written.earlier written.last)

      of_file : OnHonest before (λ files. content ≡ contents (files input))
      of_file = alone_read output input (λ file. content ≡ contents file) before begun ne b.alone (input_of input user output First session begun words started ne content whole copied more written)

      has_base : OnDisk before copied (Ends (λ _. HasSheet whole.key (side_of whole.name) c.sheet))
      has_base =
          let one = both_then (Ends (λ _. HasSheet user (side_of output) First)) (Where (HasSheet user (side_of output) First) (Ends (λ _. HasSheet user (side_of output) c.sheet))) (Ends (λ _. HasSheet user (side_of output) c.sheet))
          before.honest begun.honest copied.honest begun_has c.went.stands (λ a m e has go. go has) in
          subst (λ (u : List ℕ). OnDisk before copied (Ends (λ _. HasSheet u (side_of whole.name) c.sheet))) (sym c.stands.key_is)
          (subst (λ (n : Name). OnDisk before copied (Ends (λ _. HasSheet user (side_of n) c.sheet))) (sym c.stands.name_is) one)

      -- no more pieces came
      told_so : (ended : Result (Unit {0}) Fault) → Both copied.given after.given (TellsPieces input (0 + length (concat Given)) []) → Both before.given after.given (TellsEnd input ended)
      told_so ended told =
          both_weaker (TellsPieces input 0 (Given ++ [])) (TellsEnd input ended) before.given after.given (tells_then input 0 Given [] before copied after copied_told told)
          (λ a d t. (t.0, t.1, Given, t.2 ∙ ap (λ (l : List (List ℕ)). piece_answers input 0 l) (append-nil Given), inl small))

      flush_not : (why : FlushFault) → Fails input output (flush_fault why) copied after more random' → Sealing user input output (Err (flush_fault why)) before after random random'
      flush_not why fails = record {
        counts = counts_after (flush_fault why) before copied after random more random' copied_calm words_calm fails.counts;
        told = told_so (Err (flush_fault why)) (fails.told (0 + length (concat Given)));
        over = not_large (files_of before) input (Err (flush_fault why)) (λ is. absurd (cc)) (λ is. flush_not_large why is);
        disk = kept_out (λ is. absurd (cc)) (alone_then output before copied after copied_alone fails.alone);
        gave = λ is. absurd (cc);
      }

      -- the last sealing was made
      module _ (mid : SessionState) (between : HostState) (nonce : List ℕ) (keys : List (List ℕ)) (came : WordsCame whole.drawn (length whole.tree.dirty) nonce keys more random') (sealed_tree : TreeState)
          (done : FlushDone whole nonce keys sealed_tree copied between) (keeps : KeepsBeside whole.name copied between) (two : ChangesTwo (side_of whole.name) whole.name between after) where
        steps_are : flush_steps whole nonce keys done.blocks sealed_tree ≡ seal_steps user output nonce (side_of output) whole.tree.dirty keys sealed_tree
        steps_are =
            ap (λ (x : Bool). steps_by x whole nonce keys done.blocks sealed_tree) c.stands.beside_is
            ∙ ap (λ (u : List ℕ). seal_steps u whole.path nonce (side_of whole.name) whole.tree.dirty keys sealed_tree) c.stands.key_is
            ∙ ap (λ (p : List ℕ). seal_steps user p nonce (side_of whole.name) whole.tree.dirty keys sealed_tree) c.stands.path_is
            ∙ ap (λ (n : Name). seal_steps user output nonce (side_of n) whole.tree.dirty keys sealed_tree) c.stands.name_is

        no_piece : filter (is_piece_of input) (flush_steps whole nonce keys done.blocks sealed_tree) ≡ []
        no_piece = none_of_flush input whole nonce keys done.blocks sealed_tree c.stands.beside_is

        sealed_calm : between.faults ≡ before.faults
        sealed_calm = done.asked.faults ∙ copied_calm

        all_words_calm : random'.faults ≡ random.faults
        all_words_calm = came.took.calm ∙ words_calm

        module _ (next : Sheet) (is_next : NextSheet c.sheet whole.tree whole.path nonce keys next) where
          path_is : next.path ≡ output
          path_is = is_next.path_is ∙ c.stands.path_is

          content_is : next.content ≡ content
          content_is = is_next.content_is ∙ c.stands.now_is

          name_not : Asked [] AnotherCall between after → Publishes false c.sheet next whole copied after → Sealing user input output (Err (flush_fault flushes.Host)) before after random random'
          name_not asked publishes =
              let once : after.faults ≡ counted before.faults = once_after before.faults between.faults after.faults sealed_calm asked.faults in
              let counts : (after.faults ≡ counted before.faults) × (random'.faults ≡ random.faults) = (once, all_words_calm) in
              let ended : Result (Unit {0}) Fault = Err (flush_fault flushes.Host) in
              let never : ended ≡ Ok tt → ⊥ = λ is. absurd (cc) in
              record {
                counts = counts;
                told = told_so ended (tells_then input (0 + length (concat Given)) [] [] copied between after (tells_none input (0 + length (concat Given)) (flush_steps whole nonce keys done.blocks sealed_tree) copied between no_piece done.asked.told)
                    (tells_none input (0 + length (concat Given) + 0) [] between after refl asked.told));
                over = not_large (files_of before) input ended never (λ is. flush_not_large flushes.Host is);
                disk = new_out content of_file (tried_left user output content whole next c.stands.key_is c.stands.name_is path_is content_is c.sheet before copied between after copied_alone has_base keeps two
                    (MayBe ended before after) (ended ≡ Ok tt) (inr once) never publishes);
                gave = λ is. absurd (never is);
              }

          all_done : Asked (Swapped (side_of whole.name) whole.name ∷ []) NoCall between after → Publishes true c.sheet next whole copied after → Sealing user input output (Ok tt) before after random random'
          all_done asked publishes =
              let calm : after.faults ≡ before.faults = asked.faults ∙ sealed_calm in
              let counts : (after.faults ≡ before.faults) × (random'.faults ≡ random.faults) = (calm, all_words_calm) in
              let swap : List Answer = Swapped (side_of output) output ∷ [] in
              let swapped : Both between.given after.given (IsMore swap) = subst (λ (n : Name). Both between.given after.given (IsMore (Swapped (side_of n) n ∷ []))) c.stands.name_is asked.told in
              let steps : List Answer = seal_steps user output nonce (side_of output) whole.tree.dirty keys sealed_tree in
              let told_steps : Both copied.given between.given (IsMore steps) = subst (λ (l : List Answer). Both copied.given between.given (IsMore l)) steps_are done.asked.told in
              let behind : Both copied.given after.given (IsMore (steps ++ swap)) = told_on steps swap copied between after told_steps swapped in
              let none : filter (is_piece_of input) (steps ++ swap) ≡ [] = filter-append (is_piece_of input) steps swap ∙ ap (λ (l : List Answer). filter (is_piece_of input) l ++ []) (sym steps_are) ∙ ap (λ (l : List Answer). l ++ []) no_piece in
              record {
                counts = counts;
                told = told_so (Ok tt) (tells_none input (0 + length (concat Given)) (steps ++ swap) copied after none behind);
                over = IfSome_then (files_of before) of_file (λ (files : Files) same. record {
                  fits = λ is. let e = ap (λ (l : List ℕ). length l) (sym same ∙ sym c.together) in omega (arith, small, e);
                  large = λ is. absurd (cc);
                });
                disk = new_out content of_file (done_left user output content whole next c.stands.key_is c.stands.name_is path_is content_is c.sheet before copied between after copied_alone has_base keeps two
                    (MayBe (Ok tt) before after) (Ok tt ≡ Ok tt) (inl refl) publishes);
                gave = λ is. both_then (TellsPieces input 0 Given) (IsMore (steps ++ swap)) (TellsSealed user input output random random') before.given copied.given after.given copied_told behind
                    (λ a d e one two. (
                      one.0 ++ (steps ++ swap),
                      two ∙ ap (λ (l : List Answer). l ++ (steps ++ swap)) one.1 ∙ append_assoc a one.0 (steps ++ swap),
                      content,
                      record {
                        whole = c.whole;
                        last = c.last;
                        are_whole = c.are_whole;
                        short = c.short;
                        gave = filter-append (is_piece_of input) one.0 (steps ++ swap) ∙ ap₂ (λ (l m : List Answer). l ++ m) one.2 none ∙ append-nil (piece_answers input 0 Given);
                        content_is = sym c.together;
                      },
                      record {
                        base = c.sheet;
                        tree = whole.tree;
                        linked = c.stands.linked;
                        backs = c.stands.backed.backs;
                        earlier = Earlier;
                        before = more;
                        taken = earlier_took.told;
                        nonce = nonce;
                        keys = keys;
                        words_came = subst (λ (o : Option (List ℕ)). WordsCame o (length whole.tree.dirty) nonce keys more random') c.stands.drawn_is came;
                        next = next;
                        is_next = subst (λ (p : List ℕ). NextSheet c.sheet whole.tree p nonce keys next) c.stands.path_is is_next;
                        content_is = content_is;
                        sealed = sealed_tree;
                        shape = done.shape;
                        as_sealed = done.sealed c.sheet next (record { linked = c.stands.linked; backs = c.stands.backed.backs; is_next = is_next });
                        front = one.0;
                        last_calls = refl;
                      },
                    ));
              }

no_flush : {A E : Type 0} (value : A) (fault : E) → ◌≡◌ {A = Result A E} (Ok value) (Err fault) → ⊥
no_flush value fault same = cc

-- the calls of a sealing that was made
sealed_by : (nonce : List ℕ) (keys : List (List ℕ)) (old new : SessionState) (before after : HostState) → SealGoes (Ok tt) nonce keys old new before after → (mid : TreeState) × FlushDone old nonce keys mid before after
sealed_by nonce keys old new before after (node_short damage named short each state is) = absurd (no_flush tt _ is)
sealed_by nonce keys old new before after (call_failed stopped keeps each shape state is) = absurd (no_flush tt _ is)
sealed_by nonce keys old new before after (flushed mid done keeps settled each state is) = (mid, done)

no_publish : {A E : Type 0} (value : A) (fault : E) → ◌≡◌ {A = Result A E} (Err fault) (Ok value) → ⊥
no_publish value fault same = cc

same_fault : (why other : FlushFault) → ◌≡◌ {A = Result (Unit {0}) FlushFault} (Err why) (Err other) → why ≡ other
same_fault why other same = cc

module _ (user : List ℕ) (input output : Name) (ne : input ≢ side_of output) (before after : HostState) (random random' : WordsState) where
  module _ (begun : HostState) (words : WordsState) (session : SessionState) (b : Begun user output session before begun random words) (content : List ℕ) (whole : SessionState) (copied : HostState) (more : WordsState)
      (written : InputWritten input content session whole begun copied words more) where
    abbrev copy : IsCopied input user output (empty_sheet output b.nonce) content whole begun copied words more
    copy = is_copied input user output (empty_sheet output b.nonce) session begun words (begun_stands user output session before begun random words b) content whole copied more written

    publish_not : (why : FlushFault) → PublishGoes (Err why) whole copied after more random' → Sealing user input output (Err (flush_fault why)) before after random random'
    publish_not why (ending.not_flushed other mid flush keeps is) =
        let same = same_fault why other is in
        subst (λ (w : FlushFault). Sealing user input output (Err (flush_fault w)) before after random random') (sym same)
        (flush_not user input output ne before after random random' begun words session b content whole copied more written other
        (flush_fails input user output copied after more random' copy.sheet content whole mid copy.stands other flush))
    publish_not why (not_named mid between nonce keys came goes keeps asked two each is) =
        let sealed = sealed_by nonce keys whole mid copied between goes in
        let next = each copy.sheet copy.stands.linked copy.stands.backed in
        subst (λ (w : FlushFault). Sealing user input output (Err (flush_fault w)) before after random random') (sym (same_fault why flushes.Host is))
        (name_not user input output ne before after random random' begun words session b content whole copied more written mid between nonce keys came sealed.0 sealed.1 keeps two next.0 next.1 asked next.2)
    publish_not why (published mid between nonce keys came goes keeps asked two each is) = absurd (no_publish tt why is)

    publish_done : PublishGoes (Ok tt) whole copied after more random' → Sealing user input output (Ok tt) before after random random'
    publish_done (ending.not_flushed other mid flush keeps is) = absurd (no_flush tt other is)
    publish_done (not_named mid between nonce keys came goes keeps asked two each is) = absurd (no_flush tt _ is)
    publish_done (published mid between nonce keys came goes keeps asked two each is) =
        let sealed = sealed_by nonce keys whole mid copied between goes in
        let next = each copy.sheet copy.stands.linked copy.stands.backed in
        all_done user input output ne before after random random' begun words session b content whole copied more written mid between nonce keys came sealed.0 sealed.1 keeps two next.0 next.1 asked next.2

  pub sealing : (ended : Result (Unit {0}) Fault) → SealsInput user input output ended before after random random' → Sealing user input output ended before after random random'
  sealing ended (not_begun why other goes is) =
      subst (λ (e : Result (Unit {0}) Fault). Sealing user input output e before after random random') (sym is)
      (begun_not user input output ne before after random random' why other (beside_fails input user output before after random random' why other goes))
  sealing ended (not_copied session begun words fault goes stops is) =
      let b = has_begun user output session before begun random words goes in
      subst (λ (e : Result (Unit {0}) Fault). Sealing user input output e before after random random') (sym is)
      (copied_not user input output ne before after random random' begun words session b fault
      (stops_so input user output (empty_sheet output b.nonce) session begun words (begun_stands user output session before begun random words b) fault after random' stops))
  sealing ended (not_published session whole content begun copied words more why goes written fails is) =
      let b = has_begun user output session before begun random words goes in
      subst (λ (e : Result (Unit {0}) Fault). Sealing user input output e before after random random') (sym is) (publish_not begun words session b content whole copied more written why fails)
  sealing ended (sealed session whole content begun copied words more goes written done is) =
      let b = has_begun user output session before begun random words goes in
      subst (λ (e : Result (Unit {0}) Fault). Sealing user input output e before after random random') (sym is) (publish_done begun words session b content whole copied more written done)
