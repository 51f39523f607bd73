-- What `parts_of` answers: both cases of 5.8.2 as one, by how far down the load spreads, to h or to L - B.
use Rattle.std.specs.Prelude.{ℕ, ◌+◌, ◌*◌, ◌-◌, ◌^◌}
use Rattle.surcharge.specs.force.Force.{quotient, Pressures}

abbrev pub joint : (T k B h spread : ℕ) → Pressures
joint T k B h spread =
    record {
      p1 = record { force = quotient (T * h * k) (100 * (B + spread)); arm = quotient h 2 };
      p2 = record { force = quotient (T * spread ^ 2 * k) (200 * B * (B + spread)); arm = quotient (3 * h - spread) 3 };
    }
