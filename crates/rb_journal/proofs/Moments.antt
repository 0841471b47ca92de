-- What a crash leaves as the calls of a disk go on.
use Rattle.std.proofs.Common.{inl, inr, ℕ, ◌≤◌, List, [], ◌∷◌, ◌++◌, length, arith}
use Rattle.rb_disk.specs.Images.{Call, wrote, tore, synced, looked, IsImage, IsImageSince, Torn, IsTear, IsLook}

-- since this moment there is no other
pub since_now : (moment : ℕ) (first : List ℕ) (calls : List Call) (image : List ℕ) → length calls ≤ moment → IsImageSince moment first calls image → IsImage first calls image
since_now moment first [] image le h = h
since_now moment first (call ∷ calls) image le (inl now) = now
since_now moment first (call ∷ calls) image le (inr before) = absurd (omega (arith, before.0))

-- one call more
pub since_call : (moment : ℕ) (first : List ℕ) (call : Call) (calls : List Call) (P : List ℕ → Type 0)
    → ((image : List ℕ) → IsImageSince moment first calls image → P image)
    → ((image : List ℕ) → IsImage first (call ∷ calls) image → P image)
    → (image : List ℕ) → IsImageSince moment first (call ∷ calls) image → P image
since_call moment first call calls P so_far here image (inl now) = here image now
since_call moment first call calls P so_far here image (inr before) = so_far image before.1

-- a failed write more
pub since_tear : (moment at n : ℕ) (first : List ℕ) (trace calls : List Call) (P : List ℕ → Type 0) → IsTear at n trace
    → ((image : List ℕ) → IsImageSince moment first calls image → P image)
    → ((old image : List ℕ) → IsImage first calls old → Torn at n old image → P image)
    → (image : List ℕ) → IsImageSince moment first (trace ++ calls) image → P image
since_tear moment at n first [] calls P tear so_far here image h = so_far image h
since_tear moment at n first (tore a m shown ∷ []) calls P tear so_far here image (inl now) =
    here now.0 image now.1 (rw (← tear.0, ← tear.1) now.2)
since_tear moment at n first (tore a m shown ∷ []) calls P tear so_far here image (inr before) = so_far image before.1
since_tear moment at n first (tore a m shown ∷ (call ∷ trace)) calls P tear so_far here image h = absurd tear
since_tear moment at n first (wrote a bytes ∷ trace) calls P tear so_far here image h = absurd tear
since_tear moment at n first (synced ∷ trace) calls P tear so_far here image h = absurd tear
since_tear moment at n first (looked ∷ trace) calls P tear so_far here image h = absurd tear

-- another failed call more
pub since_look : (moment : ℕ) (first : List ℕ) (trace calls : List Call) (P : List ℕ → Type 0) → IsLook trace
    → ((image : List ℕ) → IsImageSince moment first calls image → P image)
    → ((image : List ℕ) → IsImage first calls image → P image)
    → (image : List ℕ) → IsImageSince moment first (trace ++ calls) image → P image
since_look moment first [] calls P look so_far here image h = so_far image h
since_look moment first (looked ∷ []) calls P look so_far here image (inl now) = here image now
since_look moment first (looked ∷ []) calls P look so_far here image (inr before) = so_far image before.1
since_look moment first (looked ∷ (call ∷ trace)) calls P look so_far here image h = absurd look
since_look moment first (tore a m shown ∷ trace) calls P look so_far here image h = absurd look
since_look moment first (wrote a bytes ∷ trace) calls P look so_far here image h = absurd look
since_look moment first (synced ∷ trace) calls P look so_far here image h = absurd look
