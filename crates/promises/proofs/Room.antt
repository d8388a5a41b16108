-- The answer to an event has room in the memory that it is lent.
use Prim.Native.Nat.{ℕ, ◌≤◌, ◌<◌}
use mathlib.Core.Path.{◌≡◌, refl, ap, subst}
use mathlib.Core.List.{List}
use mathlib.Core.Option.{Option, none, some}
use native.Mathlib.Omega.{arith}
use borrow.Author.Tests.{ltb-true}
use lib.Dec.{ltb, eqb}
use lib.ListN.{length, drop}
use Rattle.words.specs.Word.{Bytes}
use Rattle.kinds.specs.declared.Frame.{Frame}
use Rattle.kinds.specs.declared.Frame.TheVariants.{Event, Code, Shape}
use Rattle.kinds.specs.declared.Event.TheVariants as event
use Rattle.rules.specs.Limits.{files, answer_room, write_head}
use Rattle.rules.specs.State.{Acc, Built, File, unbuilt, built}
use Rattle.rules.specs.Requests.{acc_at}
use Rattle.rules.specs.Frames.{frame_of}
use Rattle.rules.specs.Answers.{answer_bytes}
use Rattle.rules.specs.Reply.{Reply, Out, leaves, unmade}
use Rattle.rules.specs.FileCounts.{counts}
use Rattle.rules.specs.Calls.{Ask, on_acc, ask_built, ask_unbuilt, ask}
use Rattle.rules.specs.Calls as calls
use Rattle.rules.specs.Desk.{Desk, Responded, on, frame_asks, file_of, reply_bytes, asked, answered, respond}
use Rattle.rules.specs.Desk as desk
use Rattle.rules.proofs.Split.{both, opt}
use Rattle.laws.specs.Outstanding.{req_of}
use Rattle.laws.specs.Bounds.{Bounded, Bounds}
use Rattle.laws.specs.Runs.{OnFile}
use Rattle.memory.specs.Memories.{Memories}
use Rattle.memory.specs.Fine.{Fine}
use Rattle.midst.specs.Outcome.{status_of}
use Rattle.promises.specs.Promise.{Standing, Seen, stands, with_room, reply_of, given_size, Promise}
use Rattle.promises.specs.Promise as host
use Rattle.promises.proofs.Seen.{sees}
use Rattle.promises.proofs.Short.{Short, ShortOut, done-short, IsEvent, refusal-short, build-short, open-short, read_short, write-short, control-short, collect-short, close-short}

on-acc : (q : Ask) → IsEvent q → (p : ℕ) (f : Acc → Out) (b : Built) → ((a : Acc) → acc_at b p ≡ some a → ShortOut (f a)) → ShortOut (on_acc q p f b)
unfolding on_acc leaves
on-acc q i p f b h = opt ShortOut (acc_at b p) (λ _. refusal-short q i 32 refl) h

pub request-bounded : (b : Built) (p : ℕ) (a : Acc) → Bounds b → acc_at b p ≡ some a → Bounded b.geo.words a.req
unfolding acc_at req_of
request-bounded b p a h e = subst (λ (o : Option Acc). Bounded b.geo.words (req_of o)) e (h p)

built-short : (b : Built) (q : Ask) → Bounds b → IsEvent q → ShortOut (ask_built b q)
unfolding ask_built leaves IsEvent
built-short b (calls.build r f n x) h i = refusal-short (calls.build r f n x) i 31 refl
built-short b (calls.opens a s m) h i = open-short a s m b
built-short b (calls.read p n) h i = on-acc _ i p _ b (λ a _. read_short p a n b)
built-short b (calls.write p n d) h i = on-acc _ i p _ b (λ a _. write-short p a n d b)
built-short b (calls.control p c) h i = on-acc _ i p _ b (λ a _. control-short p a c b)
built-short b (calls.collect p) h i = on-acc _ i p _ b (λ a e. collect-short p a.req b (request-bounded b p a h e))
built-short b (calls.close p) h i = on-acc _ i p _ b (λ a _. close-short p a a.req b)
built-short b calls.counts h i = unfold counts status_of in done-short _ b refl
built-short b (calls.load t) h i = absurd i
built-short b (calls.save n) h i = absurd i
built-short b (calls.look p) h i = absurd i

unbuilt-short : (q : Ask) → IsEvent q → ShortOut (ask_unbuilt q)
unfolding ask_unbuilt unmade IsEvent
unbuilt-short (calls.build r f n x) i = build-short r f n x
unbuilt-short (calls.opens a s m) i = refusal-short (calls.opens a s m) i 31 refl
unbuilt-short (calls.read p n) i = refusal-short (calls.read p n) i 31 refl
unbuilt-short (calls.write p n d) i = refusal-short (calls.write p n d) i 31 refl
unbuilt-short (calls.control p c) i = refusal-short (calls.control p c) i 31 refl
unbuilt-short (calls.collect p) i = refusal-short (calls.collect p) i 31 refl
unbuilt-short (calls.close p) i = refusal-short (calls.close p) i 31 refl
unbuilt-short calls.counts i = refusal-short calls.counts i 31 refl
unbuilt-short (calls.load t) i = absurd i
unbuilt-short (calls.save n) i = absurd i
unbuilt-short (calls.look p) i = absurd i

file-short : (x : File) (q : Ask) → OnFile Fine x → IsEvent q → ShortOut (ask x q)
unfolding ask OnFile
file-short unbuilt q h i = unbuilt-short q i
file-short (built b) q h i = built-short b q h.bounds i

pub on-short : (d : Desk) (f : ℕ) (q : Ask) → ((g : ℕ) → g < files → OnFile Fine (file_of d g)) → IsEvent q → Short (answered d (on f q)).reply
unfolding answered
on-short d f q h i =
    both (λ (r : Responded). Short r.reply) (ltb f files) (λ t. file-short (file_of d f) q (h f (ltb-true f files t)) i) (λ _. refusal-short q i 31 refl)

-- the length of an answer
unfoldable Sized : Reply → Type 0
Sized r = (2 ≤ length (reply_bytes r)) × (length (reply_bytes r) ≤ answer_room)

short-sized : {r : Reply} → Short r → Sized r
unfolding Sized
short-sized s = (s.least, s.most)

frame-sized : (d : Desk) (y : Frame) (v : List ℕ) → ((g : ℕ) → g < files → OnFile Fine (file_of d g)) → Sized (answered d (frame_asks y v)).reply
unfolding frame_asks IsEvent
frame-sized d (Event (event.Build f r b n x)) v h = short-sized (on-short d f _ h tt)
frame-sized d (Event (event.Open f a s m)) v h = short-sized (on-short d f _ h tt)
frame-sized d (Event (event.Read f p n)) v h = short-sized (on-short d f _ h tt)
frame-sized d (Event (event.Write f p n)) v h = short-sized (on-short d f _ h tt)
frame-sized d (Event (event.Control f p c)) v h = short-sized (on-short d f _ h tt)
frame-sized d (Event (event.Collect f p)) v h = short-sized (on-short d f _ h tt)
frame-sized d (Event (event.Close f p)) v h = short-sized (on-short d f _ h tt)
frame-sized d (Event (event.Time e)) v h = unfold answered reply_bytes answer_bytes Sized in (omega arith, omega arith)
frame-sized d (Event (event.Counts f)) v h = short-sized (on-short d f _ h tt)
frame-sized d (Code f p) v h = short-sized (on-short d f _ h tt)
frame-sized d Shape v h = unfold answered reply_bytes answer_bytes Sized in (omega arith, omega arith)

-- an answer fits the answer memory
pub event-fits : (d : Desk) → ((g : ℕ) → g < files → OnFile Fine (file_of d g)) → (fr : List ℕ) → length (reply_bytes (respond d (desk.event fr)).reply) ≤ answer_room
unfolding respond asked Sized
event-fits d h fr = (frame-sized d (frame_of fr) (drop write_head fr) h).1

-- "Any other status: operation and status only": no answer is shorter
pub event-told : (d : Desk) → ((g : ℕ) → g < files → OnFile Fine (file_of d g)) → (fr : List ℕ) → 2 ≤ length (reply_bytes (respond d (desk.event fr)).reply)
unfolding respond asked Sized
event-told d h fr = (frame-sized d (frame_of fr) (drop write_head fr) h).0

-- whatever the memories are seen as
seen-short : (m : Memories) (v : Option Standing) → Seen m v → (fr : List ℕ) → length (reply_bytes (reply_of v (desk.event fr))) ≤ answer_room
unfolding reply_of reply_bytes
seen-short m none S fr = omega arith
seen-short m (some v) (stands d s S) fr = event-fits d S.fine fr

-- the answer of an event call is no longer than that, whatever the memories
answer-fits : (m m' : Memories) (memory fr memory' : List ℕ) (n : ℕ) → Bytes m.segment → Bytes m.blocks → Bytes m.buffers
    → Promise m (host.event memory fr) (host.answer n memory') m' → n ≤ answer_room
unfolding Promise host.answered with_room reply_of reply_bytes given_size
answer-fits m m' memory fr memory' n bs bb bf P =
    let (v, S) = sees bs bb bf in
    let e : n ≡ length (reply_bytes (reply_of (with_room answer_room memory v) (desk.event fr))) = ap given_size (P v S).0 in
    let k : length (reply_bytes (reply_of (with_room answer_room memory v) (desk.event fr))) ≤ answer_room =
    both (λ (w : Option Standing). length (reply_bytes (reply_of w (desk.event fr))) ≤ answer_room) (eqb (length memory) answer_room)
    (λ _. seen-short m v S fr) (λ _. omega arith) in
    omega (arith, e, k)

-- the promise of an event, with the bound on its answer's length
pub with-room : (m m' : Memories) (memory fr memory' : List ℕ) (n : ℕ) → Bytes m.segment → Bytes m.blocks → Bytes m.buffers
    → Promise m (host.event memory fr) (host.answer n memory') m' → Promise m (host.event memory fr) (host.answer n memory') m' × (n ≤ answer_room)
with-room m m' memory fr memory' n bs bb bf P = (P, answer-fits m m' memory fr memory' n bs bb bf P)
