-- What look and save hand out has room in the memory that is lent for it, as an event's answer has (Room).
use Prim.Native.Nat.{ℕ, ◌+◌, ◌≤◌, ◌<◌}
use mathlib.Core.Path.{◌≡◌, refl, sym, ◌∙◌}
use mathlib.Core.Bool.{false≢true}
use mathlib.Core.List.{List, [], ◌∷◌}
use mathlib.Core.Option.{Option, none, some, some-injective}
use native.Mathlib.Omega.{arith}
use lib.Dec.{ltb, leb, eqb}
use lib.ListN.{length}
use borrow.Author.Tests.{ltb-true, leb-true}
use Rattle.rules.specs.Limits.{files, buffer_bytes}
use Rattle.rules.specs.State.{Rec, Req, idle, reading, writing, read_done, write_done, Built, File, unbuilt, built}
use Rattle.rules.specs.Store.{record_words}
use Rattle.rules.specs.Requests.{acc_at}
use Rattle.rules.specs.Reply.{Out, leaves, unmade}
use Rattle.rules.specs.Look.{oldest, look_file, look_req}
use Rattle.rules.specs.Look as looking
use Rattle.rules.specs.Sheet.{sheet}
use Rattle.rules.specs.Sheet as sheets
use Rattle.rules.specs.Calls.{ask_built, ask_unbuilt, ask, refusal, on_acc}
use Rattle.rules.specs.Calls as calls
use Rattle.rules.specs.Desk.{Desk, asked, Responded, answered, respond, reply_bytes, file_of}
use Rattle.rules.specs.Desk as rules
use Rattle.rules.proofs.Split.{by_cases, both, opt, pick_true, pick-false}
use Rattle.shares.specs.Groups.{All, Small}
use Rattle.shares.proofs.Says.{small-recs}
use Rattle.laws.specs.Runs.{OnFile}
use Rattle.laws.specs.Bounds.{Bounded}
use Rattle.memory.specs.Fine.{Fine}
use Rattle.promises.proofs.Room.{request-bounded}

-- every file that is built is fine
abbrev pub FineDesk : Desk → Type 0
FineDesk d = (g : ℕ) → g < files → OnFile Fine (file_of d g)

oldest-small : (m : ℕ) (l : List Rec) (r : Rec) → oldest l ≡ some r → Small m l → record_words r ≤ m
unfolding oldest All
oldest-small m [] r e k = absurd (false≢true cc)
oldest-small m (q ∷ l) r e k =
    by_cases (eqb q.typ 0)
    (λ z. rw (← some-injective q r (sym (pick_true (eqb q.typ 0) _ _ z) ∙ e)) k.0)
    (λ z. oldest-small m l r (sym (pick-false (eqb q.typ 0) _ _ z) ∙ e) k.1)

-- what look shows of a file, of a request and to a reader fits a record buffer
module _ (b : Built) (k : Fine b) where
  file-short : length (reply_bytes (look_file b).reply) ≤ buffer_bytes
  unfolding look_file leaves reply_bytes record_words
  file-short = go (oldest b.store.recs) refl
    where
      go : (o : Option Rec) → oldest b.store.recs ≡ o → length (reply_bytes (look_file b).reply) ≤ buffer_bytes
      go none e = rw (look_file, e) (omega arith)
      go (some r) e =
          rw (look_file, e)
          (omega (arith, oldest-small (b.geo.words + 3) b.store.recs r e (small-recs b.geo b.store k.room.holds), k.room.geo.words-high))

  req-short : (q : Req) → Bounded b.geo.words q → length (reply_bytes (look_req q b).reply) ≤ buffer_bytes
  unfolding look_req leaves reply_bytes Bounded
  req-short idle h = file-short
  req-short (reading q) h = file-short
  req-short (writing q) h = file-short
  req-short (read_done q) h = by_cases (eqb q.status 0) (λ z. rw (look_req, z) h.0) (λ z. rw (look_req, z) file-short)
  req-short (write_done q) h = file-short

  look-short : (p : ℕ) → length (reply_bytes (on_acc (calls.look p) p (λ a. looking.look a b) b).reply) ≤ buffer_bytes
  unfolding on_acc refusal looking.look leaves reply_bytes
  look-short p =
      opt (λ (o : Out). length (reply_bytes o.reply) ≤ buffer_bytes) (acc_at b p) (λ _. omega arith)
      (λ a e. both (λ (o : Out). length (reply_bytes o.reply) ≤ buffer_bytes) a.writer (λ _. omega arith) (λ _. req-short a.req (request-bounded b p a k.bounds e)))

pub look-fits : (d : Desk) → FineDesk d → (f p : ℕ) → length (reply_bytes (respond d (rules.look f p)).reply) ≤ buffer_bytes
unfolding respond asked answered refusal reply_bytes
look-fits d h f p =
    both (λ (r : Responded). length (reply_bytes r.reply) ≤ buffer_bytes) (ltb f files) (λ t. at (file_of d f) (h f (ltb-true f files t))) (λ _. omega arith)
  where
    at : (x : File) → OnFile Fine x → length (reply_bytes (ask x (calls.look p)).reply) ≤ buffer_bytes
    at unbuilt k = unfold ask ask_unbuilt unmade refusal reply_bytes in omega arith
    at (built b) k = unfold ask ask_built OnFile in look-short b k p

-- a sheet is written only where it fits the output
pub save-fits : (d : Desk) (f n : ℕ) → length (reply_bytes (respond d (rules.save f n)).reply) ≤ n
unfolding respond asked answered refusal reply_bytes
save-fits d f n = both (λ (r : Responded). length (reply_bytes r.reply) ≤ n) (ltb f files) (λ _. at (file_of d f)) (λ _. omega arith)
  where
    at : (x : File) → length (reply_bytes (ask x (calls.save n)).reply) ≤ n
    at unbuilt = unfold ask ask_unbuilt unmade refusal reply_bytes in omega arith
    at (built b) =
        unfold ask ask_built sheets.save leaves reply_bytes in
        both (λ (o : Out). length (reply_bytes o.reply) ≤ n) (leb (length (sheet b.geo b.store.recs)) n) (λ t. leb-true _ n t) (λ _. omega arith)
