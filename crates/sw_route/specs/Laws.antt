-- Why the routings keep their laws.
use Rattle.std.specs.Prelude.{◌≡◌, ℕ, ◌<◌, List, find, refl}
use Rattle.std.proofs.lemmas.Bool.{lt-ltb}
use Rattle.either.specs.declared.Either.{Either}
use Rattle.either.specs.declared.Either.TheVariants.{Left, Right}
use Rattle.either.specs.Either.{either}
use Rattle.sw_route.specs.declared.look.Look.{Look}
use Rattle.sw_route.specs.declared.look.Route.{Route}
use Rattle.sw_route.specs.declared.intervals.Interval.{Interval}
use Rattle.sw_route.specs.Looks.{path_look, no_look, look_by, look_of, covers, route_look}
use Rattle.sw_route.specs.Intervals.{intervals_look, interval_or}

look_by_path : (logical : ℕ → Look) (byte : ℕ) → byte < 32 → look_by logical byte ≡ path_look byte
look_by_path logical byte low = rw (lt-ltb byte 32 low) refl

pub table_path : (routes : List Route) (byte : ℕ) → byte < 32 → look_of routes byte ≡ path_look byte
table_path routes byte low = look_by_path (λ address. route_look (find (covers address) routes)) byte low

pub intervals_path : (intervals : List Interval) (byte : ℕ) → byte < 32 → intervals_look intervals byte ≡ path_look byte
intervals_path intervals byte low = look_by_path (interval_or no_look intervals) byte low

pub either_path : {A B : Type 0} (f : A → ℕ → Look) (g : B → ℕ → Look) → ((a : A) (byte : ℕ) → byte < 32 → f a byte ≡ path_look byte) → ((b : B) (byte : ℕ) → byte < 32 → g b byte ≡ path_look byte)
    → (e : Either A B) (byte : ℕ) → byte < 32 → either (λ a. f a byte) (λ b. g b byte) e ≡ path_look byte
either_path f g p q (Left a) byte low = p a byte low
either_path f g p q (Right b) byte low = q b byte low

pub either_reserved : {A B : Type 0} (f : A → ℕ → Look) (g : B → ℕ → Look) → ((a : A) → f a 255 ≡ no_look) → ((b : B) → g b 255 ≡ no_look)
    → (e : Either A B) → either (λ a. f a 255) (λ b. g b 255) e ≡ no_look
either_reserved f g p q (Left a) = p a
either_reserved f g p q (Right b) = q b
