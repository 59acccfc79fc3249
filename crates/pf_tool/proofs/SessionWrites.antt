-- A write of a session at the end of its content, by the cases of its contract.
use Rattle.std.proofs.Common.{◌≡◌, inl, inr, ℕ, ◌+◌, ◌^◌, ◌≤◌, max, Bool, true, false, List, length, refl, ap, subst, ◌∙◌, arith, None, Result, Ok, Err}
use Rattle.std.proofs.lemmas.Bool.{cases_lt}
use Rattle.pf_io.specs.Host.{HostState}
use Rattle.pf_io.specs.Words.{WordsState}
use Rattle.node_tree.specs.Applying.{Write}
use Rattle.node_tree.specs.declared.fault.TreeFault.{TreeFault}
use Rattle.pf_session.specs.State.{SessionState, file_of}
use Rattle.pf_session.specs.Faults.{write_of_flush, write_of_tree}
use Rattle.pf_session.specs.Flushing.{SealGoes, node_short, call_failed, flushed, FlushGoes, no_words, had_words}
use Rattle.pf_session.specs.Changing.{StepGoes, stepped, WriteRefused, WriteGoes, refused, unchanged, changed, not_flushed, flushed_and_changed}
use Rattle.pf_session.specs.declared.fault.WriteFault.{WriteFault}
use Rattle.pf_session.specs.declared.fault.WriteFault.TheVariants as writes
use Rattle.pf_session.specs.declared.fault.Written.{Written}
use Rattle.pf_tool.proofs.HeldTree.{step_size}

-- no rule refuses the write
pub record IsFit (at n size : ℕ) : Type 0 where
  pub short : n ≤ 32768
  pub small : at + n ≤ 2 ^ 32
  pub no_gap : at ≤ size

pub is_fit : (at n size : ℕ) → ((fault : WriteFault) → ¬ (WriteRefused at n size fault)) → IsFit at n size
is_fit at n size never =
    let short : n ≤ 32768 = elim (cases_lt 32768 n) [ inl long ↦ absurd (never writes.TooLong long) | inr under ↦ under ] in
    let small : at + n ≤ 2 ^ 32 = elim (cases_lt (2 ^ 32) (at + n)) [ inl large ↦ absurd (never writes.TooLarge (short, large)) | inr under ↦ under ] in
    record { short = short; small = small; no_gap = elim (cases_lt size at) [ inl past ↦ absurd (never (writes.PastEnd size) (short, small, past, refl)) | inr under ↦ under ] }

-- what a session keeps
pub record Keeps (old new : SessionState) : Type 0 where
  pub key : new.key ≡ old.key
  pub name : new.name ≡ old.name
  pub path : new.path ≡ old.path
  pub drawn : old.drawn ≡ None → new.drawn ≡ None
  pub broken : new.broken ≡ old.broken
  pub beside : new.beside ≡ old.beside

pub keeps_all : (old new : SessionState) → new ≡ old → Keeps old new
keeps_all old new same = record {
  key = ap (λ (s : SessionState). s.key) same;
  name = ap (λ (s : SessionState). s.name) same;
  path = ap (λ (s : SessionState). s.path) same;
  drawn = λ none. ap (λ (s : SessionState). s.drawn) same ∙ none;
  broken = ap (λ (s : SessionState). s.broken) same;
  beside = ap (λ (s : SessionState). s.beside) same;
}

pub keeps_then : (a b c : SessionState) → Keeps a b → Keeps b c → Keeps a c
keeps_then a b c one two = record {
  key = two.key ∙ one.key;
  name = two.name ∙ one.name;
  path = two.path ∙ one.path;
  drawn = λ none. two.drawn (one.drawn none);
  broken = two.broken ∙ one.broken;
  beside = two.beside ∙ one.beside;
}

-- a flush that was done
pub record Sealed (nonce : List ℕ) (keys : List (List ℕ)) (old new : SessionState) (before after : HostState) : Type 0 where
  pub goes : SealGoes (Ok tt) nonce keys old new before after
  pub state : new ≡ record old { nonce = nonce; drawn = None; tree = new.tree; changed = false }
  pub size : new.tree.size ≡ old.tree.size

apart : {E : Type 0} (fault : E) → ◌≡◌ {A = Result (Unit {0}) E} (Ok tt) (Err fault) → ⊥
apart fault same = cc

seal_state : (nonce : List ℕ) (keys : List (List ℕ)) (old new : SessionState) (before after : HostState) → SealGoes (Ok tt) nonce keys old new before after
    → (new ≡ record old { nonce = nonce; drawn = None; tree = new.tree; changed = false }) × (new.tree.size ≡ old.tree.size)
seal_state nonce keys old new before after (node_short damage named short each state is) = absurd (apart _ is)
seal_state nonce keys old new before after (call_failed stopped keeps each shape state is) = absurd (apart _ is)
seal_state nonce keys old new before after (flushed mid done keeps settled each state is) = (state, settled.size ∙ done.shape.size)

flush_keeps : (old new : SessionState) (before after : HostState) (random random' : WordsState) → FlushGoes (Ok tt) old new before after random random' → Keeps old new × (new.tree.size ≡ old.tree.size)
flush_keeps old new before after random random' (no_words lacked same still is) = absurd (apart _ is)
flush_keeps old new before after random random' (had_words nonce keys came goes) =
    let s = seal_state nonce keys old new before after goes in
    let is = s.0 in (
      record {
        key = ap (λ (s : SessionState). s.key) is;
        name = ap (λ (s : SessionState). s.name) is;
        path = ap (λ (s : SessionState). s.path) is;
        drawn = λ none. ap (λ (s : SessionState). s.drawn) is;
        broken = ap (λ (s : SessionState). s.broken) is;
        beside = ap (λ (s : SessionState). s.beside) is;
      },
      s.1,
    )

step_keeps : (at : ℕ) (bytes : List ℕ) (old new : SessionState) (before after : HostState) → StepGoes (Ok tt) (Write at bytes) old new before after → Keeps old new × (new.tree.size ≡ max old.tree.size (at + length bytes))
step_keeps at bytes old new before after goes =
    let is = goes.state in (
      record {
        key = ap (λ (s : SessionState). s.key) is;
        name = ap (λ (s : SessionState). s.name) is;
        path = ap (λ (s : SessionState). s.path) is;
        drawn = λ none. ap (λ (s : SessionState). s.drawn) is ∙ none;
        broken = ap (λ (s : SessionState). s.broken) is;
        beside = ap (λ (s : SessionState). s.beside) is;
      },
      step_size (file_of old) (Write at bytes) old.tree new.tree before after goes.steps,
    )

-- a write that was made
pub record Grown (at n : ℕ) (old new : SessionState) : Type 0 where
  pub fit : IsFit at n old.tree.size
  pub keeps : Keeps old new
  pub size : new.tree.size ≡ max old.tree.size (at + n)

not_written : {w : Written} (fault : WriteFault) → ◌≡◌ {A = Result Written WriteFault} (Ok w) (Err fault) → ⊥
not_written fault same = cc

pub step_was_made : {w : Written} (flag : Bool) (one : Result (Unit {0}) TreeFault) → Ok w ≡ stepped write_of_tree flag one → one ≡ Ok tt
step_was_made flag (Ok done) is = refl
step_was_made flag (Err fault) is = absurd (not_written (write_of_tree fault) is)

pub write_grows : (w : Written) (at : ℕ) (bytes : List ℕ) (old new : SessionState) (before after : HostState) (random random' : WordsState) → WriteGoes (Ok w) at bytes old new before after random random' → Grown at (length bytes) old new
write_grows w at bytes old new before after random random' (refused fault rule same still words is) = absurd (not_written fault is)
write_grows w at bytes old new before after random random' (unchanged never none same still words is) =
    let fit = is_fit at (length bytes) old.tree.size never in
    let no_bytes : length bytes ≡ 0 = ap (λ (l : List ℕ). length l) none in
    record { fit = fit; keeps = keeps_all old new same; size = ap (λ (s : SessionState). s.tree.size) same ∙ omega (arith, no_bytes, fit.no_gap) }
write_grows w at bytes old new before after random random' (changed one never some room goes words is) =
    let k = step_keeps at bytes old new before after (subst (λ (r : Result (Unit {0}) TreeFault). StepGoes r (Write at bytes) old new before after) (step_was_made false one is) goes) in
    record { fit = is_fit at (length bytes) old.tree.size never; keeps = k.0; size = k.1 }
write_grows w at bytes old new before after random random' (not_flushed fault never some many goes undamaged is) = absurd (not_written (write_of_flush fault) is)
write_grows w at bytes old new before after random random' (flushed_and_changed mid between one never some many flush goes is) =
    let f = flush_keeps old mid before between random _ flush in
    let k = step_keeps at bytes mid new between after (subst (λ (r : Result (Unit {0}) TreeFault). StepGoes r (Write at bytes) mid new between after) (step_was_made true one is) goes) in
    record { fit = is_fit at (length bytes) old.tree.size never; keeps = keeps_then old mid new f.0 k.0; size = k.1 ∙ ap (λ (n : ℕ). max n (at + length bytes)) f.1 }
