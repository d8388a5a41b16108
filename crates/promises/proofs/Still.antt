-- Look and save leave the desk and the allocation as they are, and so the memories.
use Prim.Native.Nat.{ℕ}
use mathlib.Core.Path.{◌≡◌, refl, ap, ◌∙◌}
use mathlib.Core.Bool.{Bool, true, false}
use mathlib.Core.List.{List, []}
use mathlib.Core.Option.{Option, none, some}
use lib.Dec.{ltb, leb, eqb}
use lib.ListN.{length}
use borrow.Author.Tests.{ltb-true}
use Rattle.rules.specs.Limits.{files}
use Rattle.rules.specs.State.{Req, idle, reading, writing, read_done, write_done, Built, File, unbuilt, built}
use Rattle.rules.specs.Requests.{acc_at}
use Rattle.rules.specs.Reply.{Reply, Out, hushed, leaves, unmade}
use Rattle.rules.specs.Look.{oldest, look_file, look_req}
use Rattle.rules.specs.Look as looking
use Rattle.rules.specs.Sheet.{sheet}
use Rattle.rules.specs.Sheet as sheets
use Rattle.rules.specs.Calls.{Ask, ask_built, ask_unbuilt, ask, on_acc}
use Rattle.rules.specs.Calls as calls
use Rattle.rules.specs.Desk.{Desk, Call, asked, on, answered, respond, file_of, with_file}
use Rattle.rules.specs.Desk as rules
use Rattle.rules.specs.Allocation.{Alloc, allot_all, alloc_asked}
use Rattle.rules.proofs.Split.{both, opt}
use Rattle.laws.specs.Runs.{OnFile}
use Rattle.laws.specs.Entries.{Calm, Agreed}
use Rattle.laws.proofs.Allocated.{happens-here, happens-nowhere}
use Rattle.laws.proofs.EightFiles.{file-here}
use Rattle.midst.proofs.StandsBehind.{still-stays}
use Rattle.promises.specs.Promise.{Standing, Seen, stands, Behind, with_room}
use Rattle.midst.proofs.RowUntouched.{hushed-past}
use Rattle.memory.specs.Memories.{Memories}

Still : Built → Out → Type 0
Still b o = (o.file ≡ built (hushed b)) × (o.haps ≡ b.past)

leaves-still : (r : Reply) (b : Built) → Still b (leaves r b)
unfolding Still leaves
leaves-still r b = (refl, refl)

file-still : (b : Built) → Still b (look_file b)
unfolding look_file
file-still b = opt (Still b) (oldest b.store.recs) (λ _. leaves-still _ b) (λ r _. leaves-still _ b)

req-still : (q : Req) (b : Built) → Still b (look_req q b)
unfolding look_req
req-still idle b = file-still b
req-still (reading q) b = file-still b
req-still (writing q) b = file-still b
req-still (read_done q) b = both (Still b) (eqb q.status 0) (λ _. leaves-still _ b) (λ _. file-still b)
req-still (write_done q) b = file-still b

look-still : (p : ℕ) (b : Built) → Still b (on_acc (calls.look p) p (λ a. looking.look a b) b)
unfolding on_acc looking.look
look-still p b = opt (Still b) (acc_at b p) (λ _. leaves-still _ b) (λ a _. both (Still b) a.writer (λ _. leaves-still _ b) (λ _. req-still a.req b))

save-still : (n : ℕ) (b : Built) → Still b (sheets.save n b)
unfolding sheets.save
save-still n b = both (Still b) (leb (length (sheet b.geo b.store.recs)) n) (λ _. leaves-still _ b) (λ _. leaves-still _ b)

-- what is asked changes no file at rest
pub Idle : Ask → Type 0
Idle q = (x : File) → Calm x → ((ask x q).file ≡ x) × ((ask x q).haps ≡ [])

pub idle-look : (p : ℕ) → Idle (calls.look p)
unfolding Idle ask ask_built ask_unbuilt unmade OnFile Still
idle-look p unbuilt c = (refl, refl)
idle-look p (built b) c = let (e, h) = look-still p b in (e ∙ ap built (hushed-past b c), h ∙ c)

pub idle-save : (n : ℕ) → Idle (calls.save n)
unfolding Idle ask ask_built ask_unbuilt unmade OnFile Still
idle-save n unbuilt c = (refl, refl)
idle-save n (built b) c = let (e, h) = save-still n b in (e ∙ ap built (hushed-past b c), h ∙ c)

module _ (d : Desk) (s : Alloc) (A : Agreed d s) (f : ℕ) (q : Ask) (I : Idle q) where
  pub desk-still : (answered d (on f q)).desk ≡ d
  unfolding Idle
  desk-still = go (ltb f files) refl
    where
      go : (t : Bool) → ltb f files ≡ t → (answered d (on f q)).desk ≡ d
      go true e = unfold answered in rw (e, answered) (ap (λ (x : File). with_file d f x) (I (file_of d f) (A.calm f (ltb-true f files e))).0 ∙ file-here d f (file_of d f) refl)
      go false e = unfold answered in rw (e, answered) refl

  pub alloc-still : alloc_asked d (on f q) s ≡ s
  unfolding Idle
  alloc-still = go (ltb f files) refl
    where
      go : (t : Bool) → ltb f files ≡ t → alloc_asked d (on f q) s ≡ s
      go true e = unfold alloc_asked allot_all in rw (alloc_asked, happens-here f d q (ltb-true f files e), (I (file_of d f) (A.calm f (ltb-true f files e))).1) refl
      go false e = unfold alloc_asked allot_all in rw (alloc_asked, happens-nowhere f d q e) refl

-- memories of any content are as they were after such a call

call-still : (m : Memories) (c : Call) (f : ℕ) (q : Ask) → asked c ≡ on f q → Idle q → (v : Option Standing) → Seen m v → Behind v c m m
unfolding Behind respond
call-still m c f q is I none S = refl
call-still m c f q is I (some v) (stands d s S) =
    still-stays S c (rw is (desk-still d s S.agreed f q I)) (rw is (alloc-still d s S.agreed f q I))

-- memories stay too if the memory lent beside them has a wrong length
room-still : (m : Memories) (c : Call) (n : ℕ) (memory : List ℕ) (v : Option Standing) → Behind v c m m → Behind (with_room n memory v) c m m
unfolding with_room Behind
room-still m c n memory v B = both (λ (w : Option Standing). Behind w c m m) (eqb (length memory) n) (λ _. B) (λ _. refl)

module _ (m : Memories) (v : Option Standing) (S : Seen m v) where
  pub look-behind : (n f p : ℕ) (memory : List ℕ) → Behind (with_room n memory v) (rules.look f p) m m
  unfolding asked
  look-behind n f p memory = room-still m (rules.look f p) n memory v (call-still m (rules.look f p) f (calls.look p) refl (idle-look p) v S)

  pub save-behind : (f n : ℕ) → Behind v (rules.save f n) m m
  unfolding asked
  save-behind f n = call-still m (rules.save f n) f (calls.save n) refl (idle-save n) v S
