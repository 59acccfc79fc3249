-- What a session has once it was created beside a name, and once pieces were written.
use Rattle.std.proofs.Common.{◌≡◌, ◌≢◌, ℕ, true, List, length, sym, subst, arith, Result, Ok, Err}
use Rattle.pf_io.specs.Disk.{Name}
use Rattle.pf_io.specs.Host.{HostState}
use Rattle.pf_io.specs.Words.{WordsState}
use Rattle.pf_session.specs.Asking.{NoCall, Asked}
use Rattle.pf_session.specs.Creating.{BesideGoes, misnamed, no_memory, no_words, begin_stopped, begun, Begins, IsFresh, empty_sheet, empty_node, fresh}
use Rattle.pf_session.specs.Drawing.{IsDrawn}
use Rattle.pf_session.specs.Placing.{make_steps}
use Rattle.pf_session.specs.Restored.{KeepsBeside}
use Rattle.pf_session.specs.State.{SessionState}
use Rattle.pf_session.specs.declared.fault.BesideFault.{BesideFault}
use Rattle.pf_session.specs.declared.fault.BesideFault.TheVariants as besides
use Rattle.node_layout.specs.Metadata.{IsPath}
use Rattle.std.specs.Str.{IsUtf8}
use Rattle.pf_io.specs.Names.{IsTarget, side_of}
use Rattle.pf_tool.specs.SealingInput.{PiecesWritten, none_yet, one_more, InputWritten}
use Rattle.pf_tool.proofs.SessionWrites.{Keeps, keeps_all, keeps_then, write_grows}

-- the creation of a session that was accepted
pub record Begun (user : List ℕ) (output : Name) (session : SessionState) (before after : HostState) (random random' : WordsState) : Type 0 where
  pub nonce : List ℕ
  pub drawn : IsDrawn nonce random random'
  pub asked : Asked (make_steps (side_of output) (empty_node user output nonce)) NoCall before after
  pub alone : KeepsBeside output before after
  pub begins : Begins user output (empty_sheet output nonce) before after
  pub is_fresh : IsFresh output nonce session
  pub session_is : session ≡ fresh user output output nonce true

apart : (session : SessionState) (fault : BesideFault) → ◌≡◌ {A = Result SessionState BesideFault} (Ok session) (Err fault) → ⊥
apart session fault same = cc

module _ (user : List ℕ) (output : Name) (session : SessionState) (before after : HostState) (random random' : WordsState) where
  was_fresh : (nonce : List ℕ) → IsDrawn nonce random random' → Asked (make_steps (side_of output) (empty_node user output nonce)) NoCall before after → KeepsBeside output before after → Begins user output (empty_sheet output nonce) before after
      → IsFresh output nonce (fresh user output output nonce true) → session ≡ fresh user output output nonce true → Begun user output session before after random random'
  was_fresh nonce drawn asked alone begins is same = record {
    nonce = nonce;
    drawn = drawn;
    asked = asked;
    alone = alone;
    begins = begins;
    is_fresh = subst (λ (s : SessionState). IsFresh output nonce s) (sym same) is;
    session_is = same;
  }

  pub has_begun : BesideGoes user output output before after random random' (Ok session) → Begun user output session before after random random'
  has_begun (misnamed unfit same words is) = absurd (apart session _ is)
  has_begun (no_memory named same words is) = absurd (apart session _ is)
  has_begun (no_words named same lacked is) = absurd (apart session _ is)
  has_begun (begin_stopped nonce named drawn linked stopped keeps is) = absurd (apart session _ is)
  has_begun (begun nonce named drawn asked keeps begins is_fresh is) = let same : session ≡ fresh user output output nonce true = cc in was_fresh nonce drawn asked keeps begins is_fresh same

target_path : (name : Name) → IsTarget name → IsUtf8 name → IsPath name
target_path name target text = let n = target.is_name in record { not_empty = n.not_empty; not_long = omega (arith, n.not_long); no_zero = n.no_zero; utf8 = text }

-- a text that is a target is also a fit path
pub is_named : (user : List ℕ) (output : Name) (why : BesideFault) (before after : HostState) (random random' : WordsState) → IsTarget output → IsUtf8 output → BesideGoes user output output before after random random' (Err why) → why ≢ besides.BadName
is_named user output why before after random random' target text (misnamed unfit same words is) bad = unfit (record { is_target = target; path_is = target_path output target text })
is_named user output why before after random random' target text (no_memory named same words is) bad = absurd (cc)
is_named user output why before after random random' target text (no_words named same lacked is) bad = absurd (cc)
is_named user output why before after random random' target text (begin_stopped nonce named drawn linked stopped keeps is) bad = absurd (cc)
is_named user output why before after random random' target text (begun nonce named drawn asked keeps begins is_fresh is) bad = absurd (cc)

module _ (input : Name) (old : SessionState) (before : HostState) (random : WordsState) where
  pub pieces_keep : (content : List ℕ) (new : SessionState) (after : HostState) (random' : WordsState) → PiecesWritten input old before random content new after random' → Keeps old new
  pieces_keep content new after random' (none_yet _ _ _ _ none same still words) = keeps_all old new same
  pieces_keep content new after random' (one_more earlier piece _ mid _ between _ words _ so_far wrote full is) =
      keeps_then old mid new (pieces_keep earlier mid between words so_far) (write_grows wrote.written (length earlier) piece mid new wrote.between after words random' wrote.wrote).keeps

  pub input_keeps : (content : List ℕ) (new : SessionState) (after : HostState) (random' : WordsState) → InputWritten input content old new before after random random' → Keeps old new
  input_keeps content new after random' all =
      let w = all.wrote in
      keeps_then old all.mid new (pieces_keep all.earlier all.mid all.between all.words all.whole) (write_grows w.written (length all.earlier) all.last all.mid new w.between after all.words random' w.wrote).keeps
