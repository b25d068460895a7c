-- The wrong slaves are made of ours: with our own heeding in it, the frame that they hang in is ours. Assumes nothing.
use Rattle.std.proofs.Common.{◌≡◌, ℕ, List, Some, None, Ok, Err, refl, sym}
use Rattle.line.proofs.Laws.{cond_ind}
use Rattle.line.specs.Values.{Outcome}
use Rattle.state.specs.State.{consistent, waits}
use Rattle.session.specs.Receive.{Step, heeded, meant, fed_of, receive_of}
use Rattle.model.specs.View.{view_of}
use Rattle.demands.specs.Slave.{ours}
use Rattle.demands.specs.Heard.{packet_by, read_by}
use Rattle.shown.specs.Wrong.{heard_by, heeding}
use Rattle.demands.proofs.Received.{received_by_lem}

heard_ours : (o : Outcome) (m s cal meas : List ℕ) (b : ℕ) → meant o m (read_by s b) cal meas ≡ receive_of s cal meas b → heard_by heeded (packet_by o m) s cal meas b ≡ receive_of s cal meas b
unfolding meant
heard_ours (Ok None) m s cal meas b e = refl
heard_ours (Ok (Some good)) m s cal meas b e = cond_ind (λ (x : Step). x ≡ receive_of s cal meas b) (waits s) (λ _. refl) (λ _. e)
heard_ours (Err fault) m s cal meas b e = refl

pub heeding_ours : (s cal meas : List ℕ) (b : ℕ) → (heeding heeded).receive s cal meas b ≡ ours.receive s cal meas b
unfolding view_of
heeding_ours s cal meas b =
    cond_ind (λ (x : Step). x ≡ receive_of s cal meas b) (consistent s)
    (λ c. heard_ours (fed_of s b).taken.outcome (fed_of s b).message s cal meas b (sym (received_by_lem s cal meas b c))) (λ _. refl)
