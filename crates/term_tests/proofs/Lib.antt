mod HeldEach
